use Rattle.std.proofs.Common.{◌≡◌, ◌<◌, ◌^◌, ◌++◌, take}
use Rattle.cf_bytes.specs.Bits.{bits_of}
use Rattle.cf_address.specs.Bits.{all_bits, AreBelow}
use Rattle.cf_address.proofs.fives.regroup.Given as goal

abbrev pub invariant-loop-number : goal.invariant-loop-number
invariant-loop-number l = record {
  bits : all_bits l.from (take l.number-index l.numbers) ≡ all_bits l.to l.whole.items ++ bits_of l.left.n l.left.word;
  few : l.left.n < l.to;
  word : l.left.word < 2 ^ l.left.n;
  whole : AreBelow (2 ^ l.to) l.whole.items;
}
