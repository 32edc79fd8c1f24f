-- Scripts, one at a time.
use Rattle.std.proofs.Common.{◌≡◌, ℕ, ◌+◌, ◌<◌, List, [], ◌∷◌, ◌++◌, length, get_or, take, drop, refl, add-one, Option, Some, None, ap, ◌∙◌, sym, append_assoc, append-nil, length-append, arith}
use Rattle.std.proofs.Math.Bool.{or_assoc, or_comm}
use Rattle.std.proofs.Math.Seq.{drop-cons}
use Rattle.std.proofs.lemmas.List.{take_more}
use Rattle.std.proofs.Common.{Bool, true, false}
use Rattle.std.specs.Prelude.{◌||◌, Vec, nat_eq}
use Rattle.std.specs.Global.{Global}
use Rattle.std.specs.List.{list_any}
use Rattle.std.specs.declared.cmp.Ordering.{Ordering}
use Rattle.std.specs.declared.cmp.Ordering.TheVariants.{Less, Equal, Greater}
use Rattle.std.specs.Ordering.{nat_cmp, is_eq, match_ordering}
use Rattle.std.specs.Cmp.{alike_right}
use Rattle.std.specs.Cmp.Lexicographic.{slice_cmp, pointwise, nat_list_cmp_total, texts_ties}
use Rattle.std.specs.BTreeSet.{BTreeSet, insert_key}
use Rattle.cf_scan.specs.Watching.{watch_kind_of, first_fault, or_later, Agree, IsKept}
use Rattle.cf_scan.specs.declared.watch.WatchKind.{WatchKind}
use Rattle.cf_scan.specs.declared.watch.WatchFault.{WatchFault}

-- one script more
pub fault_more : (xs : List (List ℕ)) (i : ℕ) (d : List ℕ) → i < length xs
    → first_fault (take i xs) (drop i xs) ≡ or_later (watch_kind_of (take i xs) (get_or xs i d)) (length (take i xs)) (first_fault (take i xs ++ get_or xs i d ∷ []) (drop (i + 1) xs))
fault_more xs i d lt = rw (add-one, drop-cons xs i d) refl

pub fault_ends : (before : List (List ℕ)) → first_fault before [] ≡ None
fault_ends before = refl

or_joins : (a b c : Bool) → (a || (b || c)) ≡ (b || (a || c))
or_joins a b c = sym (or_assoc a b c) ∙ ap (λ x. x || c) (or_comm a b) ∙ or_assoc b a c

or_same : (a b : Bool) → (a || b) ≡ (a || (a || b))
or_same true b = refl
or_same false b = refl

module _ {K : Type 0} (read : K → List ℕ) where
  abbrev order : K → K → Ordering
  order x y = slice_cmp nat_cmp (read x) (read y)

  -- a query finds what is put in, and what it found before
  any-insert_key : (q : List ℕ) (ks : List K) (k : K)
      → list_any (λ x. is_eq (slice_cmp nat_cmp q (read x))) (insert_key order ks k) ≡ (is_eq (slice_cmp nat_cmp q (read k)) || list_any (λ x. is_eq (slice_cmp nat_cmp q (read x))) ks)
  any-insert_key q [] k = refl
  any-insert_key q (x ∷ xs) k =
      elim (order k x) as (λ r. order k x ≡ r → list_any (λ y. is_eq (slice_cmp nat_cmp q (read y))) (match_ordering r (k ∷ x ∷ xs) (x ∷ xs) (x ∷ insert_key order xs k)) ≡ (is_eq (slice_cmp nat_cmp q (read k)) || (is_eq (slice_cmp nat_cmp q (read x)) || list_any (λ y. is_eq (slice_cmp nat_cmp q (read y))) xs))) [
        | Less ↦ λ p. refl
        | Equal ↦ λ p. or_same (is_eq (slice_cmp nat_cmp q (read x))) _ ∙ ap (λ r. is_eq r || (is_eq (slice_cmp nat_cmp q (read x)) || list_any (λ y. is_eq (slice_cmp nat_cmp q (read y))) xs)) (sym (alike_right nat_list_cmp_total (read k) (read x) q p))
        | Greater ↦ λ p. ap (λ b. is_eq (slice_cmp nat_cmp q (read x)) || b) (any-insert_key q xs k) ∙ or_joins (is_eq (slice_cmp nat_cmp q (read x))) (is_eq (slice_cmp nat_cmp q (read k))) _
      ] refl

-- one script more
pub agree_more : (watch : List (List ℕ)) (old new : BTreeSet (Vec ℕ Global)) (key : Vec ℕ Global) (script : List ℕ)
    → new.keys ≡ insert_key (λ (x y : Vec ℕ Global). slice_cmp nat_cmp x.items y.items) old.keys key
    → key.items ≡ script
    → Agree watch old → Agree (watch ++ script ∷ []) new
agree_more watch old new key script put is h q =
    ap (list_any (λ (x : Vec ℕ Global). is_eq (slice_cmp nat_cmp q x.items))) put
    ∙ any-insert_key (λ (x : Vec ℕ Global). x.items) q old.keys key
    ∙ ap (λ b. is_eq (slice_cmp nat_cmp q key.items) || b) (h q)
    ∙ or_comm (is_eq (slice_cmp nat_cmp q key.items)) (list_any (pointwise nat_eq q) watch)
    ∙ ap (λ s. list_any (pointwise nat_eq q) watch || is_eq (slice_cmp nat_cmp q s)) is
    ∙ ap (λ b. list_any (pointwise nat_eq q) watch || b) (sym (texts_ties q script))
    ∙ at watch
  where
    assoc : (a b c : Bool) → ((a || b) || c) ≡ (a || (b || c))
    assoc true b c = refl
    assoc false b c = refl

    at : (xs : List (List ℕ)) → (list_any (pointwise nat_eq q) xs || pointwise nat_eq q script) ≡ list_any (pointwise nat_eq q) (xs ++ script ∷ [])
    at [] = or_comm false (pointwise nat_eq q script)
    at (x ∷ xs) = assoc (pointwise nat_eq q x) (list_any (pointwise nat_eq q) xs) (pointwise nat_eq q script) ∙ ap (λ b. pointwise nat_eq q x || b) (at xs)

pub none_later : (k : Option WatchKind) (n : ℕ) (later : Option WatchFault) → or_later k n later ≡ None → (k ≡ None) × (later ≡ None)
none_later None n later h = (refl, h)
none_later (Some kind) n later h = cc

pub both_none : (k : Option WatchKind) (n : ℕ) (later : Option WatchFault) → k ≡ None → later ≡ None → or_later k n later ≡ None
both_none k n later a b = rw a b

faultless_more : (before xs : List (List ℕ)) (s : List ℕ) → first_fault before xs ≡ None → watch_kind_of (before ++ xs) s ≡ None → first_fault before (xs ++ s ∷ []) ≡ None
faultless_more before [] s h k = both_none (watch_kind_of before s) _ _ (rw append-nil at k) refl
faultless_more before (x ∷ xs) s h k =
    let both = none_later (watch_kind_of before x) _ _ h in
    both_none (watch_kind_of before x) _ _ both.0 (faultless_more (before ++ x ∷ []) xs s both.1 (rw append_assoc k))

-- one script more that isn't refused
pub kept_more : (scripts : List (List ℕ)) (old new : BTreeSet (Vec ℕ Global)) (key : Vec ℕ Global) (script : List ℕ)
    → new.keys ≡ insert_key (λ (x y : Vec ℕ Global). slice_cmp nat_cmp x.items y.items) old.keys key
    → key.items ≡ script → watch_kind_of scripts script ≡ None → length scripts < 1000
    → IsKept scripts old → IsKept (scripts ++ script ∷ []) new
kept_more scripts old new key script put is kind few kept = record {
  agree = agree_more scripts old new key script put is kept.agree;
  few = omega (arith, length-append scripts (script ∷ []));
  watch = faultless_more [] scripts script kept.watch kind;
}

-- the first fault, by how far it came
pub ruleset faults = (fault_more, fault_ends, take_more)
