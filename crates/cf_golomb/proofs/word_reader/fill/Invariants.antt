use Rattle.std.proofs.Common.{◌≡◌, ◌≤◌, ◌<◌, ◌^◌, ◌++◌, length}
use Rattle.cf_bytes.specs.Bits.{bits_of}
use Rattle.cf_golomb.specs.Bits.{unpack}
use Rattle.cf_golomb.proofs.word_reader.fill.Given as goal

abbrev pub invariant-loop-n : goal.invariant-loop-n
invariant-loop-n l = record {
  bits : bits_of l.fn.n l.fn.word ++ unpack l.fn.rest ≡ bits_of l.n l.word ++ unpack l.rest;
  fits : l.n ≤ 40;
  word : l.word < 2 ^ l.n;
}

abbrev pub decreases-loop-n : goal.decreases-loop-n
decreases-loop-n l = length l.rest
