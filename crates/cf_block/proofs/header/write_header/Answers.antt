use Rattle.std.proofs.Common.{rules, ◌++◌, ap, ◌∙◌, List, ℕ}
use Rattle.std.proofs.Math.Facts.{to_z-of_z}
use Rattle.std.specs.Int.{w32, to_le_bytes, cast_unsigned}
use Rattle.cf_block.proofs.Joins.{joined}
use Rattle.cf_block.specs.Header.{header_spelling}
use Rattle.cf_block.proofs.header.write_header.Goals as goal

pub returns-clause-ok : goal.returns-clause-ok
unfolding header_spelling
returns-clause-ok c =
    let h = c.args.h.now in
    let e1 = rw c.unwrap.ensures at c.extend_from_slice.ensures.items in
    let e2 = rw c.unwrap-2.ensures at c.extend_from_slice-2.ensures.items in
    let e3 = rw c.unwrap-3.ensures at c.extend_from_slice-3.ensures.items in
    let e4 = rw c.unwrap-4.ensures at c.extend_from_slice-4.ensures.items in
    let e5 = rw c.unwrap-5.ensures at c.extend_from_slice-5.ensures.items in
    let e6 = rw c.unwrap-6.ensures at c.extend_from_slice-6.ensures.items in
    joined c.args.out.now.items c.to_le_bytes.result h.previous.0 h.root.0 c.to_le_bytes-2.result c.to_le_bytes-3.result c.to_le_bytes-4.result
    _ _ _ _ _ _
    (to_le_bytes w32 (cast_unsigned w32 h.version)) (to_le_bytes w32 h.time) (to_le_bytes w32 h.bits) (to_le_bytes w32 h.nonce)
    (e1 ∙ ap (λ (old : List ℕ). old ++ c.to_le_bytes.result) c.reserve.ensures.items) e2 e3 e4 e5 e6
    (c.to_le_bytes.ensures ∙ ap (to_le_bytes w32) c.cast_unsigned.ensures ∙ ap (λ z. to_le_bytes w32 (cast_unsigned w32 z)) (to_z-of_z {w = w32} {z = h.version} (search rules)))
    c.to_le_bytes-2.ensures c.to_le_bytes-3.ensures c.to_le_bytes-4.ensures
