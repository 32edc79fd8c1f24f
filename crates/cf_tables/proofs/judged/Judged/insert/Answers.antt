use Rattle.std.proofs.Common.{Bool, cond, Some, ◌∙◌, ap}
use Rattle.cf_tables.specs.Judged.{verdicts_in}
use Rattle.cf_tables.proofs.Judgings.{both_same}
use Rattle.cf_tables.proofs.judged.Judged.insert.Goals as goal

pub returns-clause-ok : goal.returns-clause-ok
unfolding verdicts_in
returns-clause-ok c = λ block filter.
    c.in_ok-insert.ensures.updates.0 (record { block = record { 0 = block }; filter = record { 0 = filter } })
    ∙ ap (λ (b : Bool). cond b (Some c.args.verdict) (verdicts_in c.args.self.now block filter)) (both_same c.args.block.0 c.args.filter.0 block filter)
