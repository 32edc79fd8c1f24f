use Rattle.std.proofs.Common.{sym, ◌∙◌}
use Rattle.cf_tables.specs.Outputs.{outputs_in}
use Rattle.cf_tables.proofs.Putting.{items_fresh, items_there}
use Rattle.cf_tables.proofs.outputs.Outputs.put.Goals as goal

pub returns-then-has-clause-ok : goal.returns-then-has-clause-ok
returns-then-has-clause-ok c = λ at.
    items_there (outputs_in c.args.self.now) c.args.hash.0 c.args.items (sym c.has.ensures ∙ c.if-has.true) at

pub returns-clause-ok : goal.returns-clause-ok
returns-clause-ok c = λ at.
    c.in_ok-insert.ensures.ok at ∙ items_fresh (outputs_in c.args.self.now) c.args.hash.0 c.args.items (sym c.has.ensures ∙ c.if-has.false) at
