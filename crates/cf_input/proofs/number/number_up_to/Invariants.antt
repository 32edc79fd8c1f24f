use Rattle.std.proofs.Common.{◌≡◌, ◌+◌, ◌≤◌, min, take}
use Rattle.cf_input.specs.Number.{number_of}
use Rattle.cf_input.proofs.number.number_up_to.Given as goal

abbrev pub invariant-loop-digit : goal.invariant-loop-digit
invariant-loop-digit l = record {
  number : l.number ≡ min (number_of (take l.digit-index l.text)) (l.fn.most + 1);
  small : l.number ≤ l.fn.most + 1;
  above : l.above ≡ l.fn.most + 1;
}
