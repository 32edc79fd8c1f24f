use Rattle.std.proofs.Common.{◌≡◌, ◌≤◌, ◌<◌, ◌^◌, ◌++◌}
use Rattle.cf_bytes.specs.Bits.{bits_of}
use Rattle.cf_address.specs.Bits.{all_bits, AreBelow}
use Rattle.cf_address.proofs.fives.flush.Given as goal

abbrev pub invariant-loop-n : goal.invariant-loop-n
invariant-loop-n l = record {
  bits : all_bits l.to l.fn.out.items ++ bits_of l.fn.n l.fn.word ≡ all_bits l.to l.out.items ++ bits_of l.n l.word;
  fits : l.n ≤ 16;
  left : l.word < 2 ^ l.n;
  whole : AreBelow (2 ^ l.to) l.fn.out.items → AreBelow (2 ^ l.to) l.out.items;
}

abbrev pub decreases-loop-n : goal.decreases-loop-n
decreases-loop-n l = l.n
