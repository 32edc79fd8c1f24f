use Rattle.std.proofs.Common.{sym, ◌∙◌}
use Rattle.cf_tables.specs.Extracts.{table_in}
use Rattle.cf_tables.proofs.Putting.{kept_there, put_fresh}
use Rattle.cf_tables.proofs.extracts.Extracts.put.Goals as goal

pub returns-then-has-clause-ok : goal.returns-then-has-clause-ok
returns-then-has-clause-ok c = λ hash.
    kept_there (table_in c.args.self.now) c.args.hash.0 c.args.extract (sym c.has.ensures ∙ c.if-has.true) hash

pub returns-clause-ok : goal.returns-clause-ok
returns-clause-ok c = λ hash.
    c.in_ok-insert.ensures.ok hash ∙ put_fresh (table_in c.args.self.now) c.args.hash.0 c.args.extract (sym c.has.ensures ∙ c.if-has.false) hash
