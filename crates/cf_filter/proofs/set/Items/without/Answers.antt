use Rattle.std.proofs.Common.{◌∙◌, ap, Vec, ℕ, List}
use Rattle.std.specs.Global.{Global}
use Rattle.std.proofs.lemmas.List.Kept.{IsStrictlySortedBy-filter}
use Rattle.cf_filter.specs.Items.{items_without, sorted_set, texts}
use Rattle.cf_filter.proofs.Search.{without_set}
use Rattle.cf_filter.proofs.set.Items.without.Goals as goal

pub invariant_of-result : goal.invariant_of-result
invariant_of-result c = rw (c.in_ok-scripts.ensures, c.as_slice.ensures.value) (IsStrictlySortedBy-filter _ _ (texts c.self.inside.scripts.items) c.self.invariant)

pub returns : goal.returns
returns c =
    c.in_ok-scripts.ensures
    ∙ ap (λ (items : List (Vec ℕ Global)). items_without (texts c.as_slice-2.result.now) (texts items)) c.as_slice.ensures.value
    ∙ ap (λ set. items_without set (texts c.self.inside.scripts.items)) (c.as_slice-2.ensures.scripts ∙ c.of-left_out.ensures ∙ ap sorted_set c.in_ok-copies.ensures)
    ∙ without_set c.args.scripts.now (texts c.self.inside.scripts.items)
    ∙ ap (items_without c.args.scripts.now) c.self.view_is
