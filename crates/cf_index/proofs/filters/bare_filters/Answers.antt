use Rattle.std.proofs.Common.{◌≡◌, ℕ, ◌+◌, ◌-◌, List, ◌∷◌, map, length, ◌∙◌, ap, arith}
use Rattle.cf_chain.specs.Filters.{Filtered, first_filtered}
use Rattle.cf_index.specs.declared.block_filter.BareFilter.{BareFilter}
use Rattle.cf_index.proofs.Baring.{bare_from}
use Rattle.cf_index.proofs.filters.bare_filters.Goals as goal

pub returns-clause-names : goal.returns-clause-names
returns-clause-names g c =
    let blocks = c.args.blocks.now in
    let whole : 0 + (length blocks - 0) ≡ length blocks = omega arith in
    let p : BareFilter → List ℕ = λ f. f.block.0 in
    let q : Filtered → List ℕ = λ f. f.block in
    let all = bare_from p q (λ scripts b f previous is. is.0) blocks c.args.spent.now first_filtered.header 0 (length blocks - 0) _ c.requires.kept.taken whole c.in_ok-all.ensures in
    ap (λ (l : List BareFilter). first_filtered.block ∷ map p l) c.from_vec.ensures ∙ ap (λ (l : List (List ℕ)). first_filtered.block ∷ l) all

pub returns-clause-filters : goal.returns-clause-filters
returns-clause-filters g c =
    let blocks = c.args.blocks.now in
    let whole : 0 + (length blocks - 0) ≡ length blocks = omega arith in
    let p : BareFilter → List ℕ = λ f. f.filter in
    let q : Filtered → List ℕ = λ f. f.filter in
    let all = bare_from p q (λ scripts b f previous is. is.1) blocks c.args.spent.now first_filtered.header 0 (length blocks - 0) _ c.requires.kept.taken whole c.in_ok-all.ensures in
    ap (λ (l : List BareFilter). first_filtered.filter ∷ map p l) c.from_vec.ensures ∙ ap (λ (l : List (List ℕ)). first_filtered.filter ∷ l) all
