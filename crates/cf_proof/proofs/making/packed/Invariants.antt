use Rattle.std.proofs.Common.{◌≡◌, ◌<◌, ◌^◌, ◌++◌, take}
use Rattle.cf_proof.specs.Proof.{flags_of}
use Rattle.cf_proof.specs.Steps.{low_bits}
use Rattle.cf_proof.proofs.making.packed.Given as goal

abbrev pub invariant-loop-bit : goal.invariant-loop-bit
invariant-loop-bit l = record {
  bits : flags_of l.bytes.items ++ low_bits l.part.n l.part.byte ≡ take l.bit-index l.bits;
  few : l.part.n < 8;
  small : l.part.byte < 2 ^ l.part.n;
}
