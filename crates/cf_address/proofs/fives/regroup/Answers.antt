use Rattle.std.proofs.Common.{◌<◌, ◌^◌, refl, arith}
use Rattle.std.proofs.lemmas.List.Elements.{All-nil}
use Rattle.cf_bytes.specs.Bits.{bits_of}
use Rattle.cf_address.proofs.fives.regroup.Goals as goal

pub loop-number-init : goal.loop-number-init
unfolding bits_of
loop-number-init c = record {
  bits = rw c.new-whole.ensures.items refl;
  few = c.requires.some;
  word = omega arith;
  whole = rw c.new-whole.ensures.items (All-nil (λ v. v < 2 ^ c.args.to));
}
