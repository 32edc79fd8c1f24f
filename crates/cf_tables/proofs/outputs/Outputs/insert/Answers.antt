use Rattle.std.proofs.Common.{Bool, cond, Some, ◌∙◌, ap}
use Rattle.std.proofs.lemmas.Map.Text.{is_eq-slice_cmp}
use Rattle.cf_headers.specs.Rules.{same}
use Rattle.cf_tables.specs.Outputs.{outputs_in}
use Rattle.cf_tables.proofs.outputs.Outputs.insert.Goals as goal

pub returns-clause-ok : goal.returns-clause-ok
unfolding outputs_in same
returns-clause-ok c = λ at.
    c.in_ok-insert.ensures.updates.0 (record { 0 = at })
    ∙ ap (λ (b : Bool). cond b (Some c.args.items) (outputs_in c.args.self.now at)) (is_eq-slice_cmp c.args.hash.0 at)
