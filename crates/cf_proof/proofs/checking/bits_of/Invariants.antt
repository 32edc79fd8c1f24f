use Rattle.std.proofs.Common.{◌≡◌, take}
use Rattle.cf_proof.specs.Proof.{flags_of}
use Rattle.cf_proof.proofs.checking.bits_of.Given as goal

abbrev pub invariant-loop-byte : goal.invariant-loop-byte
invariant-loop-byte l = l.bits.items ≡ flags_of (take l.byte-index l.proof.flags)
