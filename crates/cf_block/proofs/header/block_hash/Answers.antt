use Rattle.std.proofs.Common.{rules, [], refl, ap, ◌∙◌}
use Rattle.std.specs.Int.{w32, to_le_bytes, cast_unsigned}
use Rattle.std.proofs.Math.Facts.{to_z-of_z}
use Rattle.sha2.specs.Sha256.{sha256}
use Rattle.cf_block.proofs.Joins.{joined}
use Rattle.cf_bytes.specs.Hash.{hash_of}
use Rattle.cf_block.specs.Header.{header_spelling, block_hash_of}
use Rattle.cf_block.proofs.header.block_hash.Goals as goal

pub returns : goal.returns
unfolding header_spelling block_hash_of hash_of
returns c =
    let h = c.args.h.now in
    c.digest.ensures
    ∙ ap sha256 (c.finalize.ensures _ (c.update-6.ensures _ (c.update-5.ensures _ (c.update-4.ensures _ (c.update-3.ensures _ (c.update-2.ensures _ (c.update.ensures _ c.new-hasher.ensures)))))))
    ∙ ap hash_of (joined [] c.to_le_bytes.result h.previous.0 h.root.0 c.to_le_bytes-2.result c.to_le_bytes-3.result c.to_le_bytes-4.result
    _ _ _ _ _ _
    (to_le_bytes w32 (cast_unsigned w32 h.version)) (to_le_bytes w32 h.time) (to_le_bytes w32 h.bits) (to_le_bytes w32 h.nonce)
    refl refl refl refl refl refl
    (c.to_le_bytes.ensures ∙ ap (to_le_bytes w32) c.cast_unsigned.ensures ∙ ap (λ z. to_le_bytes w32 (cast_unsigned w32 z)) (to_z-of_z {w = w32} {z = h.version} (search rules))) c.to_le_bytes-2.ensures c.to_le_bytes-3.ensures c.to_le_bytes-4.ensures)
