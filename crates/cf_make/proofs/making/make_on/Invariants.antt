use Rattle.std.proofs.Common.{◌≡◌, ◌+◌, length}
use Rattle.cf_make.specs.Made.{IsExtension, tip_after, genesis_tip}
use Rattle.cf_make.proofs.making.make_on.Given as goal

abbrev pub invariant-loop : goal.invariant-loop
invariant-loop l = record {
  extends : IsExtension l.fn.base l.seed l.counter l.whole;
  height : l.height ≡ length l.fn.base + l.counter;
  tip : l.tip ≡ tip_after genesis_tip l.whole;
}
