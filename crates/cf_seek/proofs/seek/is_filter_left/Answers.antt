use Rattle.std.proofs.Common.{◌≡◌, false, true, List, subst, sym, ◌∙◌}
use Rattle.cf_bytes.specs.declared.hash.Hash32.{Hash32}
use Rattle.cf_dispute.specs.Tables.{blocks_of}
use Rattle.cf_headers.specs.Chain.{IsIn}
use Rattle.cf_seek.specs.OpensOf.{filter_at}
use Rattle.cf_seek.proofs.seek.is_filter_left.Goals as goal

pub returns-clause-no : goal.returns-clause-no
unfolding filter_at
returns-clause-no c = λ e block there un.
    let no : true ≡ false = sym there ∙ c.args.at.now.listed block (λ i.
    c.is_one_left.ensures.no e block (subst (λ (xs : List Hash32). IsIn block (blocks_of xs)) (sym c.as_slice.ensures.value) i) there un) in
    cc no
