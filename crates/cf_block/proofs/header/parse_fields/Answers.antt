use Rattle.std.proofs.Common.{rules}
use Rattle.std.proofs.Math.Facts.{to_z-of_z}
use Rattle.std.specs.Int.{w32, to_le_bytes, cast_unsigned}
use Rattle.cf_block.proofs.Joins.{taken}
use Rattle.cf_block.specs.Header.{header_spelling}
use Rattle.cf_block.proofs.header.parse_fields.Goals as goal

pub returns-clause-found : goal.returns-clause-found
unfolding header_spelling
returns-clause-found c =
    rw (to_z-of_z {w = w32} {z = c.in_ok-version.version} (search rules))
    (taken c.args.cut.now c.i32.new.self c.hash.new.self c.hash-2.new.self c.u32.new.self c.u32-2.new.self c.u32-3.new.self
    (to_le_bytes w32 (cast_unsigned w32 c.in_ok-version.version)) c.in_ok-previous.previous.0 c.in_ok-root.root.0
    (to_le_bytes w32 c.in_ok-time.time) (to_le_bytes w32 c.in_ok-bits.bits) (to_le_bytes w32 c.in_ok-nonce.nonce)
    c.in_ok-version.ensures.found c.in_ok-previous.ensures.found c.in_ok-root.ensures.found
    c.in_ok-time.ensures.found c.in_ok-bits.ensures.found c.in_ok-nonce.ensures.found)
