use Rattle.std.proofs.Common.{◌≡◌, true, false, sym, ◌∙◌, ap}
use Rattle.cf_seek.specs.OpensOf.{block_at, is_this}
use Rattle.cf_seek.proofs.Openings.{same_here}
use Rattle.cf_seek.proofs.open_at.OpenAt.has_none.Goals as goal

pub returns-in-Some-clause-no : goal.returns-in-Some-clause-no
unfolding block_at
returns-in-Some-clause-no c = λ e none.
    let block = c.in-Some.field-0.0 in
    let no : true ≡ false = sym (ap (is_this block) c.in-Some.is ∙ same_here block) ∙ none block in
    cc no
