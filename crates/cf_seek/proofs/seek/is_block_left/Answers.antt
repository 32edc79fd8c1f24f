use Rattle.std.proofs.Common.{false, true, ◌≡◌, ◌∙◌, ap, subst}
use Rattle.cf_dispute.specs.Of.{tables_of}
use Rattle.cf_tables.specs.Extracts.{table_in}
use Rattle.cf_tables.specs.Judged.{verdicts_in}
use Rattle.cf_seek.specs.OpensOf.{block_at, is_this}
use Rattle.cf_tables.specs.Wanting.{IsToFetch}
use Rattle.cf_seek.proofs.Sought.{not_to_fetch}
use Rattle.cf_seek.proofs.SoughtStays.{same_true}
use Rattle.cf_seek.proofs.Openings.{same_here}
use Rattle.cf_seek.proofs.seek.is_block_left.Goals as goal

pub returns-in-Some-clause-no : goal.returns-in-Some-clause-no
unfolding block_at
returns-in-Some-clause-no c = λ e block there due.
    let extracts = table_in c.args.extracts.now in
    let tables = tables_of c.args.claims.now in
    let verdicts = verdicts_in c.args.judged.now in
    let is : block ≡ c.in-Some.block.0 = same_true block c.in-Some.block.0 (subst (λ o. is_this block o ≡ true) c.in-Some.is there) in
    not_to_fetch extracts tables verdicts c.in-Some.block.0 c.kind_of.result c.kind_of.ensures (c.is_due.ensures.no e) (subst (IsToFetch extracts tables verdicts) is due)

pub returns-in-None-clause-no : goal.returns-in-None-clause-no
unfolding block_at
returns-in-None-clause-no c = λ e block there. absurd (let no : false ≡ true = subst (λ o. is_this block o ≡ true) c.in-None.is there in cc no)

pub returns-in-Some-clause-yes : goal.returns-in-Some-clause-yes
unfolding block_at
returns-in-Some-clause-yes c = λ e.
    let block = c.in-Some.block.0 in
    let due = rw (c.is_due.ensures.yes e) at c.kind_of.ensures in
    (block, (ap (is_this block) c.in-Some.is ∙ same_here block, due))
