use Rattle.std.proofs.Common.{Bool, cond, Some, ◌∙◌, ap}
use Rattle.std.proofs.lemmas.Map.Text.{is_eq-slice_cmp}
use Rattle.cf_headers.specs.Rules.{same}
use Rattle.cf_tables.specs.Extracts.{table_in}
use Rattle.cf_tables.proofs.extracts.Extracts.insert.Goals as goal

pub returns-clause-ok : goal.returns-clause-ok
unfolding table_in same
returns-clause-ok c = λ hash.
    c.in_ok-insert.ensures.updates.0 (record { 0 = hash })
    ∙ ap (λ (b : Bool). cond b (Some c.args.extract) (table_in c.args.self.now hash)) (is_eq-slice_cmp c.args.hash.0 hash)
