-- What is open, after a change.
use Rattle.std.proofs.Common.{◌≡◌, ◌≢◌, ◌⊎◌, inl, inr, ℕ, zero, suc, ◌<◌, ◌≤◌, Bool, true, false, cond, List, [], ◌∷◌, ◌++◌, length, set, get_or, refl, sym, ◌∙◌, ap, subst, arith, Option, Some, None}
use Rattle.std.specs.Prelude.{is_some, slice_get, Result, Ok, Err, OnErr}
use Rattle.std.specs.Ordering.{is_eq, nat_cmp}
use Rattle.std.specs.Cmp.Lexicographic.{slice_cmp}
use Rattle.std.proofs.lemmas.Bool.{cases_Bool, cases_eq}
use Rattle.std.proofs.lemmas.Map.Text.{is_eq-slice_cmp}
use Rattle.std.proofs.lemmas.Slice.Eq.{bytes_eq-Decides}
use Rattle.cf_bytes.specs.declared.hash.Hash32.{Hash32}
use Rattle.cf_bytes.specs.declared.memory.NoMemory.{NoMemory}
use Rattle.cf_dispute.specs.Tables.{blocks_of}
use Rattle.cf_headers.specs.Chain.{Hash, IsIn}
use Rattle.cf_seek.specs.declared.open_at.OpenAt.{OpenAt}
use Rattle.cf_seek.specs.Listed.{AreListed, is_key}
use Rattle.cf_seek.specs.Opening.{Closes, OpensBlock, OpensFilters, OpensSome}
use Rattle.cf_seek.specs.OpensOf.{filter_at, filter_or, block_at, block_or, opens_among}
use Rattle.cf_seek.specs.Seeking.{MoreOpens}
use Rattle.cf_headers.specs.Rules.{same}

-- what is said of a failure
pub on_err : {A : Type 0} (result : Result (Unit {0}) NoMemory) → A → OnErr result A
on_err (Ok u) a = tt
on_err (Err n) a = a

same_true : (a b : List ℕ) → same a b ≡ true → a ≡ b
unfolding same
same_true a b e = (bytes_eq-Decides a b).0 e

compared : (a b : Hash) → is_eq (slice_cmp nat_cmp a b) ≡ same a b
unfolding same
compared a b = is_eq-slice_cmp a b

true_here : (a : Hash) → same a a ≡ true
unfolding same
true_here a = (bytes_eq-Decides a a).1 refl

pub same_here : (a : Hash) → same a a ≡ true
same_here a = true_here a

pub put_here : (at : Hash) (o : Option (Unit {0})) → is_some (cond (is_eq (slice_cmp nat_cmp at at)) (Some tt) o) ≡ true
put_here at o = ap (λ (b : Bool). is_some (cond b (Some tt) o)) (compared at at ∙ true_here at)

pub put_stays : (at hash : Hash) (o : Option (Unit {0})) → is_some o ≡ true → is_some (cond (is_eq (slice_cmp nat_cmp at hash)) (Some tt) o) ≡ true
put_stays at hash o was = by (is_eq (slice_cmp nat_cmp at hash)) where
  by : (b : Bool) → is_some (cond b (Some tt) o) ≡ true
  by true = refl
  by false = was

pub put_only : (at hash : Hash) (o : Option (Unit {0})) → is_some (cond (is_eq (slice_cmp nat_cmp at hash)) (Some tt) o) ≡ true → (hash ≡ at) ⊎ (is_some o ≡ true)
put_only at hash o is = elim (cases_Bool (is_eq (slice_cmp nat_cmp at hash))) [
  | inl e ↦ inl (sym (same_true at hash (sym (compared at hash) ∙ e)))
  | inr off ↦ inr (sym (ap (λ (b : Bool). is_some (cond b (Some tt) o)) off) ∙ is)
]

-- one place more
pub seat_more : {A : Type 0} (f : Option A → Bool) (xs : List A) (x : A) → ((p : ℕ) → f (slice_get xs p) ≡ false) → f (Some x) ≡ false → f None ≡ false → (p : ℕ) → f (slice_get (xs ++ x ∷ []) p) ≡ false
seat_more f [] x all new none zero = new
seat_more f [] x all new none (suc p) = none
seat_more f (y ∷ xs) x all new none zero = all 0
seat_more f (y ∷ xs) x all new none (suc p) = seat_more f xs x (λ q. all (suc q)) new none p

-- one place of several
pub seat_here : {A B : Type 0} (f : Option A → B) (xs : List A) (p : ℕ) (x : A) → p < length xs → f (slice_get (set xs p x) p) ≡ f (Some x)
seat_here f [] p x lt = absurd (omega (arith, lt))
seat_here f (y ∷ xs) zero x lt = refl
seat_here f (y ∷ xs) (suc p) x lt = seat_here f xs p x (omega (arith, lt))

pub seat_other : {A B : Type 0} (f : Option A → B) (xs : List A) (p q : ℕ) (x : A) → q ≢ p → f (slice_get (set xs p x) q) ≡ f (slice_get xs q)
seat_other f [] p q x off = refl
seat_other f (y ∷ xs) zero zero x off = absurd (off refl)
seat_other f (y ∷ xs) zero (suc q) x off = refl
seat_other f (y ∷ xs) (suc p) zero x off = refl
seat_other f (y ∷ xs) (suc p) (suc q) x off = seat_other f xs p q x (λ e. off (ap suc e))

pub seat_past : {A B : Type 0} (f : Option A → B) (xs : List A) (p : ℕ) → length xs ≤ p → f (slice_get xs p) ≡ f None
seat_past f [] p ge = refl
seat_past f (y ∷ xs) zero ge = absurd (omega (arith, ge))
seat_past f (y ∷ xs) (suc p) ge = seat_past f xs p (omega (arith, ge))

pub seat_at : {A B : Type 0} (f : Option A → B) (xs : List A) (p : ℕ) (d : A) → p < length xs → f (slice_get xs p) ≡ f (Some (get_or xs p d))
seat_at f [] p d lt = absurd (omega (arith, lt))
seat_at f (y ∷ xs) zero d lt = refl
seat_at f (y ∷ xs) (suc p) d lt = seat_at f xs p d (omega (arith, lt))

-- ---- a place that changed

pub closes_at : (peers : List OpenAt) (p : ℕ) (at : OpenAt) → p < length peers → ((block : Hash) → filter_at at block ≡ false) → ((block : Hash) → block_at at block ≡ false) → Closes (opens_among peers) (opens_among (set peers p at)) p
closes_at peers p at lt none_filter none_block = record {
  filters = λ block. seat_here (λ o. filter_or o block) peers p at lt ∙ none_filter block;
  blocks = λ block. seat_here (λ o. block_or o block) peers p at lt ∙ none_block block;
  others = record { filters = λ q off block. seat_other (λ o. filter_or o block) peers p q at off; blocks = λ q off block. seat_other (λ o. block_or o block) peers p q at off };
}

pub opens_some_at : (peers : List OpenAt) (p : ℕ) (old new d : OpenAt) (asked : List Hash) → p < length peers → old ≡ get_or peers p d
    → ((hash : Hash) → filter_at old hash ≡ true → filter_at new hash ≡ true)
    → ((hash : Hash) → filter_at new hash ≡ true → IsIn hash asked ⊎ (filter_at old hash ≡ true))
    → ((hash : Hash) → block_at new hash ≡ block_at old hash)
    → OpensSome (opens_among peers) (opens_among (set peers p new)) p asked
opens_some_at peers p old new d asked lt was stays only block =
    let before : (hash : Hash) → filter_or (slice_get peers p) hash ≡ filter_at old hash = λ hash. seat_at (λ o. filter_or o hash) peers p d lt ∙ ap (λ (o : OpenAt). filter_at o hash) (sym was) in
    let after : (hash : Hash) → filter_or (slice_get (set peers p new) p) hash ≡ filter_at new hash = λ hash. seat_here (λ o. filter_or o hash) peers p new lt in
    record {
      stays = λ hash is. after hash ∙ stays hash (sym (before hash) ∙ is);
      only = λ hash is. elim (only hash (sym (after hash) ∙ is)) [ inl i ↦ inl i | inr held ↦ inr (before hash ∙ held) ];
      blocks = λ hash. seat_here (λ o. block_or o hash) peers p new lt ∙ block hash ∙ ap (λ (o : OpenAt). block_at o hash) was ∙ sym (seat_at (λ o. block_or o hash) peers p d lt);
      others = record { filters = λ q off hash. seat_other (λ o. filter_or o hash) peers p q new off; blocks = λ q off hash. seat_other (λ o. block_or o hash) peers p q new off };
    }

pub closed_past : (peers : List OpenAt) (p : ℕ) → length peers ≤ p → Closes (opens_among peers) (opens_among peers) p
closed_past peers p ge = record {
  filters = λ block. seat_past (λ o. filter_or o block) peers p ge;
  blocks = λ block. seat_past (λ o. block_or o block) peers p ge;
  others = record { filters = λ q off block. refl; blocks = λ q off block. refl };
}

pub opens_block_at : (peers : List OpenAt) (p : ℕ) (old new d : OpenAt) (asked : Hash) → p < length peers → old ≡ get_or peers p d → ((hash : Hash) → filter_at new hash ≡ filter_at old hash) → ((hash : Hash) → block_at new hash ≡ same hash asked)
    → OpensBlock (opens_among peers) (opens_among (set peers p new)) p asked
opens_block_at peers p old new d asked lt was filters block = record {
  there = seat_here (λ o. block_or o asked) peers p new lt ∙ block asked ∙ true_here asked;
  only = λ hash is. same_true hash asked (sym (seat_here (λ o. block_or o hash) peers p new lt ∙ block hash) ∙ is);
  filters = λ hash. seat_here (λ o. filter_or o hash) peers p new lt ∙ filters hash ∙ ap (λ (o : OpenAt). filter_at o hash) was ∙ sym (seat_at (λ o. filter_or o hash) peers p d lt);
  others = record { filters = λ q off hash. seat_other (λ o. filter_or o hash) peers p q new off; blocks = λ q off hash. seat_other (λ o. block_or o hash) peers p q new off };
}

pub opens_filters_at : (peers : List OpenAt) (p : ℕ) (old new d : OpenAt) (asked : List Hash) → p < length peers → old ≡ get_or peers p d → ((hash : Hash) → IsIn hash asked → filter_at new hash ≡ true)
    → ((hash : Hash) → filter_at old hash ≡ true → filter_at new hash ≡ true) → ((hash : Hash) → filter_at new hash ≡ true → IsIn hash asked ⊎ (filter_at old hash ≡ true)) → ((hash : Hash) → block_at new hash ≡ block_at old hash)
    → OpensFilters (opens_among peers) (opens_among (set peers p new)) p asked
opens_filters_at peers p old new d asked lt was there stays only block =
    let before : (hash : Hash) → filter_or (slice_get peers p) hash ≡ filter_at old hash = λ hash. seat_at (λ o. filter_or o hash) peers p d lt ∙ ap (λ (o : OpenAt). filter_at o hash) (sym was) in
    let after : (hash : Hash) → filter_or (slice_get (set peers p new) p) hash ≡ filter_at new hash = λ hash. seat_here (λ o. filter_or o hash) peers p new lt in
    record {
      there = λ hash i. after hash ∙ there hash i;
      stays = λ hash is. after hash ∙ stays hash (sym (before hash) ∙ is);
      only = λ hash is. elim (only hash (sym (after hash) ∙ is)) [ inl i ↦ inl i | inr held ↦ inr (before hash ∙ held) ];
      blocks = λ hash. seat_here (λ o. block_or o hash) peers p new lt ∙ block hash ∙ ap (λ (o : OpenAt). block_at o hash) was ∙ sym (seat_at (λ o. block_or o hash) peers p d lt);
      others = record { filters = λ q off hash. seat_other (λ o. filter_or o hash) peers p q new off; blocks = λ q off hash. seat_other (λ o. block_or o hash) peers p q new off };
    }

off_before : (a b : Bool) → (a ≡ true → b ≡ true) → b ≡ false → a ≡ false
off_before true b stays e = absurd (let no = sym (stays refl) ∙ e in cc no)
off_before false b stays e = refl

pub more_at : (peers : List OpenAt) (p : ℕ) (old new d : OpenAt) → p < length peers → old ≡ get_or peers p d → ((hash : Hash) → filter_at old hash ≡ true → filter_at new hash ≡ true) → ((hash : Hash) → block_at new hash ≡ block_at old hash)
    → MoreOpens (opens_among peers) (opens_among (set peers p new))
more_at peers p old new d lt was stays block = record {
  filters = λ q hash e. elim (cases_eq q p) [
    | inl is ↦ subst (λ (k : ℕ). filter_or (slice_get peers k) hash ≡ false) (sym is)
        (seat_at (λ o. filter_or o hash) peers p d lt ∙ ap (λ (o : OpenAt). filter_at o hash) (sym was)
        ∙ off_before (filter_at old hash) (filter_at new hash) (stays hash) (sym (seat_here (λ o. filter_or o hash) peers p new lt) ∙ subst (λ (k : ℕ). filter_or (slice_get (set peers p new) k) hash ≡ false) is e))
    | inr off ↦ sym (seat_other (λ o. filter_or o hash) peers p q new off) ∙ e
  ];
  blocks = λ q hash e. elim (cases_eq q p) [
    | inl is ↦ subst (λ (k : ℕ). block_or (slice_get peers k) hash ≡ false) (sym is)
        (seat_at (λ o. block_or o hash) peers p d lt ∙ ap (λ (o : OpenAt). block_at o hash) (sym was)
        ∙ sym (block hash) ∙ sym (seat_here (λ o. block_or o hash) peers p new lt) ∙ subst (λ (k : ℕ). block_or (slice_get (set peers p new) k) hash ≡ false) is e)
    | inr off ↦ sym (seat_other (λ o. block_or o hash) peers p q new off) ∙ e
  ];
}

-- ---- the blocks of the filters that are open

-- a list with one block more
pub in_pushed : (xs : List Hash32) (y : Hash32) (hash : Hash) → IsIn hash (blocks_of xs) ⊎ (hash ≡ y.0) → IsIn hash (blocks_of (xs ++ y ∷ []))
in_pushed [] y hash (inl i) = absurd i
in_pushed [] y hash (inr e) = inl e
in_pushed (x ∷ xs) y hash (inl (inl e)) = inl e
in_pushed (x ∷ xs) y hash (inl (inr i)) = inr (in_pushed xs y hash (inl i))
in_pushed (x ∷ xs) y hash (inr e) = inr (in_pushed xs y hash (inr e))

-- it has each key of a map that it had
pub listed_more : (entries : List (Hash32 × Unit {0})) (xs more : List Hash32) (y : Hash32) → more ≡ xs ++ y ∷ []
    → AreListed entries xs → AreListed entries more
listed_more entries xs more y is are hash out =
    are hash (λ i. out (subst (λ (zs : List Hash32). IsIn hash (blocks_of zs)) (sym is) (in_pushed xs y hash (inl i))))

-- and the key that is put
pub listed_put : (entries next : List (Hash32 × Unit {0})) (xs more : List Hash32) (y : Hash32) → more ≡ xs ++ y ∷ []
    → ((hash : Hash) → is_key next hash ≡ true → (hash ≡ y.0) ⊎ (is_key entries hash ≡ true)) → AreListed entries xs → AreListed next more
listed_put entries next xs more y is only are hash out = elim (cases_Bool (is_key next hash)) [
  | inl there ↦ elim (only hash there) [
    | inl this ↦ absurd (out (subst (λ (zs : List Hash32). IsIn hash (blocks_of zs)) (sym is) (in_pushed xs y hash (inr this))))
    | inr was ↦ absurd (let no : true ≡ false = sym was ∙ listed_more entries xs more y is are hash out in cc no)
  ]
  | inr off ↦ off
]
