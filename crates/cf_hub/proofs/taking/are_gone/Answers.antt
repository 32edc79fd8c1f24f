use Rattle.std.proofs.Common.{rules, arith, ◌≡◌, true, false, slice_index_or}
use Rattle.cf_hub.specs.Over.{connections}
use Rattle.cf_hub.proofs.Opened.{one_further, within}
use Rattle.cf_hub.proofs.taking.are_gone.Goals as goal

pub loop-p-preserved : goal.loop-p-preserved
loop-p-preserved g c =
    one_further (λ q. slice_index_or (connections c.args.writers.now) q false ≡ true → slice_index_or c.args.gone.now q false ≡ true) c.loop-p.p c.loop-p.invariant (c.is_left.ensures (search rules))

pub returns : goal.returns
returns g c = λ _ q m. let w = within c.args.writers.now q m in c.loop-p.invariant q (omega (arith, w, c.loop-p-test.false)) m
