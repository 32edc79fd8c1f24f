-- The keys of a map are the filters that it has a verdict on.
use Rattle.std.proofs.Common.{◌≡◌, inl, inr, Bool, true, false, List, [], ◌∷◌, map, Option, Some, cond, refl, sym, ◌∙◌, ap, subst, ◌&&◌}
use Rattle.std.specs.Prelude.{IsSome}
use Rattle.std.specs.List.{AllByRecursion}
use Rattle.std.specs.List.Sorted.{IsStrictlySortedBy}
use Rattle.std.specs.Map.{lookup, keys_of}
use Rattle.std.specs.declared.cmp.Ordering.{Ordering}
use Rattle.std.specs.declared.cmp.Ordering.TheVariants.{Less, Equal}
use Rattle.std.specs.Ordering.{is_eq, nat_cmp, ordering_then}
use Rattle.std.specs.Cmp.Lexicographic.{slice_cmp}
use Rattle.std.specs.Cmp.{Equal-is}
use Rattle.std.proofs.lemmas.Bool.{and_parts}
use Rattle.std.proofs.lemmas.Slice.Eq.{bytes_eq-Decides}
use Rattle.std.proofs.lemmas.Map.Keys.{sorted_head, sorted_tail}
use Rattle.cf_dispute.proofs.PutIn.{same_true}
use Rattle.cf_headers.specs.Chain.{Hash, IsIn}
use Rattle.cf_headers.specs.Counts.{AreDistinct}
use Rattle.cf_headers.specs.Rules.{same}
use Rattle.cf_match.specs.declared.job.Verdict.{Verdict}
use Rattle.cf_tables.specs.declared.judged.Judging.{Judging}
use Rattle.cf_tables.proofs.HeldLaws.{some_either}
use Rattle.cf_tables.proofs.Judgings.{both_same}

abbrev pub judging_cmp : Judging → Judging → Ordering
judging_cmp a b = ordering_then (slice_cmp nat_cmp a.block.0 b.block.0) (slice_cmp nat_cmp a.filter.0 b.filter.0)

abbrev pub is_under : Hash → Hash → Judging → Bool
is_under block filter k = is_eq (ordering_then (slice_cmp nat_cmp block k.block.0) (slice_cmp nat_cmp filter k.filter.0))

abbrev pub found_under : List (Judging × Verdict) → Hash → Hash → Option Verdict
found_under entries block filter = lookup (is_under block filter) entries

abbrev pub filter_at : Hash → Hash → Hash × Hash
filter_at block filter = (block, filter)

abbrev pub pair_of : Judging × Verdict → Hash × Hash
pair_of e = (e.0.block.0, e.0.filter.0)

abbrev pub filters_in : List (Judging × Verdict) → List (Hash × Hash)
filters_in entries = map pair_of entries

same_self : (h : Hash) → same h h ≡ true
unfolding same
same_self h = (bytes_eq-Decides h h).1 refl

under_self : (block filter : Hash) → is_eq (ordering_then (slice_cmp nat_cmp block block) (slice_cmp nat_cmp filter filter)) ≡ true
under_self block filter = both_same block filter block filter ∙ ap (λ (t : Bool). t && same filter filter) (same_self block) ∙ same_self filter

under_is : (block filter : Hash) (k : Judging) → is_under block filter k ≡ true → filter_at block filter ≡ filter_at k.block.0 k.filter.0
under_is block filter k e =
    let parts = and_parts (same block k.block.0) (same filter k.filter.0) (sym (both_same block filter k.block.0 k.filter.0) ∙ e) in
    ap (λ (x : Hash). filter_at x filter) (same_true block k.block.0 parts.0) ∙ ap (λ (x : Hash). filter_at k.block.0 x) (same_true filter k.filter.0 parts.1)

is_under_it : (f : Hash × Hash) (k : Judging) → f ≡ (k.block.0, k.filter.0) → is_under f.0 f.1 k ≡ true
is_under_it f k e = subst (λ (x : Hash × Hash). is_under x.0 x.1 k ≡ true) (sym e) (under_self k.block.0 k.filter.0)

pub verdict_kept : (entries : List (Judging × Verdict)) (f : Hash × Hash) → IsIn f (filters_in entries) → IsSome (found_under entries f.0 f.1)
verdict_kept [] f i = absurd i
verdict_kept (e ∷ rest) f (inl is) =
    some_either (is_under f.0 f.1 e.0) e.1 (found_under rest f.0 f.1) (λ off. absurd (
    let no : true ≡ false = sym (is_under_it f e.0 is) ∙ off in cc no))
verdict_kept (e ∷ rest) f (inr i) = some_either (is_under f.0 f.1 e.0) e.1 (found_under rest f.0 f.1) (λ off. verdict_kept rest f i)

under_by : (b : Bool) (e : Judging × Verdict) (rest : List (Judging × Verdict)) (block filter : Hash) → is_under block filter e.0 ≡ b
    → (IsSome (found_under rest block filter) → IsIn (block, filter) (filters_in rest))
    → IsSome (cond b (Some e.1) (found_under rest block filter)) → IsIn (block, filter) (filters_in (e ∷ rest))
under_by true e rest block filter is more some = inl (under_is block filter e.0 is)
under_by false e rest block filter is more some = inr (more some)

pub verdict_all : (entries : List (Judging × Verdict)) (block filter : Hash) → IsSome (found_under entries block filter) → IsIn (block, filter) (filters_in entries)
verdict_all [] block filter some = cc some
verdict_all (e ∷ rest) block filter some = under_by (is_under block filter e.0) e rest block filter refl (λ s. verdict_all rest block filter s) some

not_under : (block filter : Hash) → ordering_then (slice_cmp nat_cmp block block) (slice_cmp nat_cmp filter filter) ≡ Less → ⊥
not_under block filter e =
    let tie : ordering_then (slice_cmp nat_cmp block block) (slice_cmp nat_cmp filter filter) ≡ Equal = (Equal-is (ordering_then (slice_cmp nat_cmp block block) (slice_cmp nat_cmp filter filter))).0 (under_self block filter) in
    let no : Equal ≡ Less = sym tie ∙ e in cc no

clear_of : (k : Judging) (rest : List (Judging × Verdict)) → AllByRecursion (λ y. judging_cmp k y ≡ Less) (keys_of rest) → IsIn (k.block.0, k.filter.0) (filters_in rest) → ⊥
clear_of k [] all i = absurd i
clear_of k (e ∷ rest) all (inl is) =
    not_under k.block.0 k.filter.0 (subst (λ (x : Hash × Hash). ordering_then (slice_cmp nat_cmp k.block.0 x.0) (slice_cmp nat_cmp k.filter.0 x.1) ≡ Less) (sym is) all.0)
clear_of k (e ∷ rest) all (inr i) = clear_of k rest all.1 i

pub filters_apart : (entries : List (Judging × Verdict)) → IsStrictlySortedBy judging_cmp (keys_of entries) → AreDistinct (filters_in entries)
filters_apart [] sorted = tt
filters_apart (e ∷ rest) sorted = (
  λ i. clear_of e.0 rest (sorted_head judging_cmp e.0 (keys_of rest) sorted) i,
  filters_apart rest (sorted_tail judging_cmp e.0 (keys_of rest) sorted),
)
