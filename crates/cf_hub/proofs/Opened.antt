-- Writers by their places, as one is added or changed.
use Rattle.std.proofs.Common.{◌≡◌, ◌⊎◌, ◌<◌, ◌≤◌, ◌+◌, ℕ, zero, suc, Bool, true, false, true≢false, List, [], ◌∷◌, ◌++◌, Option, Some, None, Vec, vec_len, length, map, get_or, slice_set, slice_index_or, sym, refl, ap, ◌∙◌, subst, inl, inr, arith}
use Rattle.std.specs.Global.{Global}
use Rattle.std.specs.List.{slice_get}
use Rattle.std.proofs.lemmas.List.{map-append}
use Rattle.std.proofs.lemmas.Option.{get_or_from_slice_get, slice_get_read, slice_get_within}
use Rattle.std.proofs.Math.Seq.{map-set_same}
use Rattle.cf_tasks.specs.declared.entry.Item.{Item}
use Rattle.cf_outside.specs.declared.entry.EntryKind.{EntryKind}
use Rattle.cf_hub.proofs.Lines.{below}
use Rattle.cf_outside.specs.declared.reader.Reader.{Reader}
use Rattle.cf_hub.specs.Finish.{Read, whose, begun, numbers_of, read_numbers}
use Rattle.cf_hub.specs.Over.{is_there, connections, numbers_from, AllGone, Heard, HaveEnded}
use Rattle.cf_hub.specs.Writers.{text_in, texts, AreOpen, AreShut, Shuts}

abbrev present : {X : Type 0} → Option X → Bool
present None = false
present (Some x) = true

abbrev inner : {X : Type 0} → X → Option X → X
inner x None = x
inner x (Some y) = y

some_is : {X : Type 0} (x y : X) → Some x ≡ Some y → x ≡ y
some_is x y e = ap (inner x) e

none_is : {X : Type 0} (x : X) → None ≡ Some x → ⊥
none_is x e = true≢false (sym (ap present e))

module _ {X : Type 0} where
  -- what stands at a place once one was set
  set_at : (xs : List X) (p q : ℕ) (x y : X) → slice_get (slice_set xs p x) q ≡ Some y → ((q ≡ p) × (x ≡ y)) ⊎ (slice_get xs q ≡ Some y)
  set_at [] p q x y e = inr e
  set_at (a ∷ rest) zero zero x y e = inl (refl, some_is x y e)
  set_at (a ∷ rest) zero (suc q) x y e = inr e
  set_at (a ∷ rest) (suc p) zero x y e = inr e
  set_at (a ∷ rest) (suc p) (suc q) x y e = elim (set_at rest p q x y e) [ inl h ↦ inl (ap suc h.0, h.1) | inr h ↦ inr h ]

  -- what stands at the place where one was set
  set_there : (xs : List X) (p : ℕ) (x y z : X) → slice_get xs p ≡ Some z → slice_get (slice_set xs p x) p ≡ Some y → x ≡ y
  set_there [] p x y z there e = absurd (none_is z there)
  set_there (a ∷ rest) zero x y z there e = some_is x y e
  set_there (a ∷ rest) (suc p) x y z there e = set_there rest p x y z there e

  -- what stands at a place once one was added
  more_at : (xs : List X) (q : ℕ) (x y : X) → slice_get (xs ++ x ∷ []) q ≡ Some y → (slice_get xs q ≡ Some y) ⊎ (x ≡ y)
  more_at [] zero x y e = inr (some_is x y e)
  more_at [] (suc q) x y e = absurd (none_is y e)
  more_at (a ∷ rest) zero x y e = inl e
  more_at (a ∷ rest) (suc q) x y e = more_at rest q x y e

-- a mark that isn't there stays so where others are
still_false : (bs : List Bool) (p q : ℕ) → slice_index_or (slice_set bs p true) q false ≡ false → slice_index_or bs q false ≡ false
still_false [] p q e = e
still_false (b ∷ bs) zero zero e = absurd (true≢false e)
still_false (b ∷ bs) zero (suc q) e = e
still_false (b ∷ bs) (suc p) zero e = e
still_false (b ∷ bs) (suc p) (suc q) e = still_false bs p q e

-- one more that isn't marked
no_mark : (bs : List Bool) (p : ℕ) → slice_index_or (bs ++ false ∷ []) p false ≡ true → slice_index_or bs p false ≡ true
no_mark [] zero e = absurd (true≢false (sym e))
no_mark [] (suc p) e = e
no_mark (b ∷ bs) zero e = e
no_mark (b ∷ bs) (suc p) e = no_mark bs p e

numbers_marked : (n : ℕ) (bs : List Bool) → numbers_from n (bs ++ true ∷ []) ≡ numbers_from n bs ++ (n + length bs) ∷ []
numbers_marked n [] = (let e : n ≡ n + 0 = omega arith in ap (λ k. k ∷ []) e)
numbers_marked n (true ∷ bs) = ap (λ l. n ∷ l) (numbers_marked (n + 1) bs) ∙ (let e : n + 1 + length bs ≡ n + suc (length bs) = omega arith in ap (λ k. n ∷ (numbers_from (n + 1) bs ++ k ∷ [])) e)
numbers_marked n (false ∷ bs) = numbers_marked (n + 1) bs ∙ (let e : n + 1 + length bs ≡ n + suc (length bs) = omega arith in ap (λ k. numbers_from (n + 1) bs ++ k ∷ []) e)

numbers_unmarked : (n : ℕ) (bs : List Bool) → numbers_from n (bs ++ false ∷ []) ≡ numbers_from n bs
numbers_unmarked n [] = refl
numbers_unmarked n (true ∷ bs) = ap (λ l. n ∷ l) (numbers_unmarked (n + 1) bs)
numbers_unmarked n (false ∷ bs) = numbers_unmarked (n + 1) bs

length_map : {X Y : Type 0} (f : X → Y) (xs : List X) → length (map f xs) ≡ length xs
length_map f [] = refl
length_map f (x ∷ xs) = ap suc (length_map f xs)

pub ended_same : (bs bs' : List Bool) (got got' : List (Item EntryKind)) → bs' ≡ bs → got' ≡ got → HaveEnded bs got → HaveEnded bs' got'
ended_same bs bs' got got' e g h = let Q : List Bool → Type 0 = λ x. HaveEnded x got' in let R : List (Item EntryKind) → Type 0 = HaveEnded bs in subst Q (sym e) (subst R (sym g) h)

-- a fact of the first numbers, and of one more
pub one_further : (P : ℕ → Type 0) (n : ℕ) → ((q : ℕ) → q < n → P q) → P n → (q : ℕ) → q < n + 1 → P q
one_further P n h p q l = elim (below q n l) [ inl x ↦ h q x | inr x ↦ subst P (sym x) p ]

module _ {W : Type 0} where
  pub there_at : (ws : List (Option W)) (p : ℕ) (o : Option W) → slice_get ws p ≡ Some o → slice_index_or (connections ws) p false ≡ is_there o
  there_at [] p o e = absurd (none_is o e)
  there_at (x ∷ xs) zero o e = ap is_there (some_is x o e)
  there_at (x ∷ xs) (suc p) o e = there_at xs p o e

  pub none_at : (ws : List (Option W)) (p : ℕ) → slice_get ws p ≡ None → slice_index_or (connections ws) p false ≡ false
  none_at [] p e = refl
  none_at (x ∷ xs) zero e = absurd (none_is x (sym e))
  none_at (x ∷ xs) (suc p) e = none_at xs p e

  pub within : (ws : List (Option W)) (p : ℕ) → slice_index_or (connections ws) p false ≡ true → p < length ws
  within [] p e = absurd (true≢false (sym e))
  within (x ∷ xs) zero e = omega arith
  within (x ∷ xs) (suc p) e = let h = within xs p e in omega (arith, h)

  -- one that is there takes the place of one that is there
  pub same_there : (ws ws' : List (Option W)) (p : ℕ) (w w' : W) → slice_get ws p ≡ Some (Some w) → ws' ≡ slice_set ws p (Some w') → connections ws' ≡ connections ws
  same_there ws ws' p w w' at e = ap connections e ∙ map-set_same is_there ws p (Some w') (Some w) (ap is_there (sym (get_or_from_slice_get ws p (Some w) (Some w) at)))

  -- a dial that went well
  pub numbers_more : (ws ws' : List (Option W)) (w : W) (ns : List ℕ) → ws' ≡ ws ++ Some w ∷ [] → ns ≡ numbers_from 0 (connections ws) → ns ++ length ws ∷ [] ≡ numbers_from 0 (connections ws')
  numbers_more ws ws' w ns e h =
      ap (λ l. l ++ length ws ∷ []) h
      ∙ (let n : length ws ≡ 0 + length (connections ws) = (let h = length_map is_there ws in omega (arith, h)) in ap (λ k. numbers_from 0 (connections ws) ++ k ∷ []) n)
      ∙ sym (ap (λ l. numbers_from 0 (connections l)) e ∙ ap (numbers_from 0) (map-append is_there ws (Some w ∷ [])) ∙ numbers_marked 0 (connections ws))

  -- one that failed
  pub numbers_none : (ws ws' : List (Option W)) → ws' ≡ ws ++ None ∷ [] → numbers_from 0 (connections ws') ≡ numbers_from 0 (connections ws)
  numbers_none ws ws' e = ap (λ l. numbers_from 0 (connections l)) e ∙ ap (numbers_from 0) (map-append is_there ws (None ∷ [])) ∙ numbers_unmarked 0 (connections ws)

  pub ended_none : (ws ws' : List (Option W)) (got : List (Item EntryKind)) → ws' ≡ ws ++ None ∷ [] → HaveEnded (connections ws) got → HaveEnded (connections ws') got
  ended_none ws ws' got e h = λ p m. h p (no_mark (connections ws) p (sym (ap (λ l. slice_index_or l p false) (ap connections e ∙ map-append is_there ws (None ∷ []))) ∙ m))

  pub have_ended : (ws : List (Option W)) (gone : List Bool) (got : List (Item EntryKind)) → AllGone ws gone → Heard gone got → HaveEnded (connections ws) got
  have_ended ws gone got a h = λ p m. h p (a p m)

-- one writer is changed, and not what it tells
pub same_texts : {W : Type 0} (written : W → Option (List ℕ)) (ws ws' : List (Option W)) (p : ℕ) (w w' : W) → slice_get ws p ≡ Some (Some w) → ws' ≡ slice_set ws p (Some w') → written w' ≡ written w → texts written ws' ≡ texts written ws
same_texts written ws ws' p w w' at e t =
    ap (texts written) e ∙ map-set_same (text_in written) ws p (Some w') (Some w) (ap (λ b. Some b) t ∙ ap (text_in written) (sym (get_or_from_slice_get ws p (Some w) (Some w) at)))

-- one writer is changed, and not whether it is shut
pub same_open : {W : Type 0} (was_shut : W → Bool) (closed : List Bool) (ws ws' : List (Option W)) (p : ℕ) (w w' : W) → slice_get ws p ≡ Some (Some w) → ws' ≡ slice_set ws p (Some w') → was_shut w' ≡ was_shut w
    → AreOpen was_shut closed ws → AreOpen was_shut closed ws'
same_open was_shut closed ws ws' p w w' at e t h = λ q v is c. elim (set_at ws p q (Some w') (Some v) (sym (ap (λ l. slice_get l q) e) ∙ is)) [
  | inl x ↦ ap was_shut (sym (some_is w' v x.1)) ∙ t ∙ h p w at (ap (λ i. slice_index_or closed i false) (sym x.0) ∙ c)
  | inr x ↦ h q v x c
]

-- the writer of a peer that is marked is changed
pub marked_open : {W : Type 0} (was_shut : W → Bool) (closed : List Bool) (ws ws' : List (Option W)) (p : ℕ) (w' : W) → ws' ≡ slice_set ws p (Some w') → slice_index_or closed p false ≡ true
    → AreOpen was_shut closed ws → AreOpen was_shut closed ws'
marked_open was_shut closed ws ws' p w' e m h = λ q v is c. elim (set_at ws p q (Some w') (Some v) (sym (ap (λ l. slice_get l q) e) ∙ is)) [
  | inl x ↦ absurd (true≢false (sym m ∙ ap (λ i. slice_index_or closed i false) (sym x.0) ∙ c))
  | inr x ↦ h q v x c
]

module _ {W : Type 0} (was_shut : W → Bool) where
  pub first_open : (closed : List Bool) (ws : List (Option W)) → ws ≡ None ∷ [] → AreOpen was_shut closed ws
  first_open closed ws e = λ p w at c. elim (more_at [] p None (Some w) (sym (ap (λ l. slice_get l p) e) ∙ at)) [ inl x ↦ absurd (none_is (Some w) x) | inr x ↦ absurd (none_is w x) ]

  pub opens_more : (closed : List Bool) (ws ws' : List (Option W)) (w : W) → ws' ≡ ws ++ Some w ∷ [] → was_shut w ≡ false → AreOpen was_shut closed ws → AreOpen was_shut closed ws'
  opens_more closed ws ws' w e o h = λ p v at c. elim (more_at ws p (Some w) (Some v) (sym (ap (λ l. slice_get l p) e) ∙ at)) [ inl x ↦ h p v x c | inr x ↦ ap was_shut (sym (some_is w v x)) ∙ o ]

  pub opens_none : (closed : List Bool) (ws ws' : List (Option W)) → ws' ≡ ws ++ None ∷ [] → AreOpen was_shut closed ws → AreOpen was_shut closed ws'
  opens_none closed ws ws' e h = λ p v at c. elim (more_at ws p None (Some v) (sym (ap (λ l. slice_get l p) e) ∙ at)) [ inl x ↦ h p v x c | inr x ↦ absurd (none_is v x) ]

  pub opens_closed : (closed closed' : List Bool) (p : ℕ) (ws : List (Option W)) → closed' ≡ slice_set closed p true → AreOpen was_shut closed ws → AreOpen was_shut closed' ws
  opens_closed closed closed' p ws e h = λ q v at c. h q v at (still_false closed p q (sym (ap (λ l. slice_index_or l q false) e) ∙ c))

  pub opens_same : (closed closed' : List Bool) (ws : List (Option W)) → closed' ≡ closed → AreOpen was_shut closed ws → AreOpen was_shut closed' ws
  opens_same closed closed' ws e h = let Q : List Bool → Type 0 = λ c. AreOpen was_shut c ws in subst Q (sym e) h

-- one reader more, for the writer that was added
pub reading_more : {S R W : Type 0} (was now : List (Reader S R)) (x : Reader S R) (ws ws' : List (Option W)) (w : W) → now ≡ was ++ x ∷ [] → ws' ≡ ws ++ Some w ∷ [] → x.sender.number ≡ length ws
    → numbers_of was ≡ numbers_from 0 (connections ws) → numbers_of now ≡ numbers_from 0 (connections ws')
reading_more was now x ws ws' w e f n h =
    ap numbers_of e ∙ map-append (λ t. t.sender.number) was (x ∷ []) ∙ ap (λ k. numbers_of was ++ k ∷ []) n ∙ numbers_more ws ws' w (numbers_of was) f h

first_of : {X Y Z : Type 0} (f : X → Y × Z) (xs : List X) → map (λ y. y.0) (map f xs) ≡ map (λ x. (f x).0) xs
first_of f [] = refl
first_of f (x ∷ xs) = ap (λ l. (f x).0 ∷ l) (first_of f xs)

-- the sources that were read have the numbers of their readers
pub same_numbers : {S R : Type 0} (js : List (Read S)) (ts : List (Reader S R)) → map whose js ≡ map begun ts → read_numbers js ≡ numbers_of ts
same_numbers js ts e = sym (first_of whose js) ∙ ap (map (λ x. x.0)) e ∙ first_of begun ts

-- the writer that was read at a place stands there
pub writer_at : {W : Type 0} (ws : Vec (Option W) Global) (p : ℕ) (o : Option W) (w : W) → p < vec_len ws → o ≡ get_or ws.items p o → o ≡ Some w
    → slice_get ws.items p ≡ Some (Some w)
writer_at ws p o w l value is = slice_get_read ws.items (vec_len ws) p o ws.ok.0 l value ∙ ap (λ x. Some x) is

pub shut_here : {W : Type 0} (written : W → Option (List ℕ)) (was_shut : W → Bool) (ws : List (Option W)) (p : ℕ) (w w' : W) → slice_get ws p ≡ Some (Some w)
    → written w' ≡ written w → was_shut w' ≡ true → Shuts written was_shut p ws (slice_set ws p (Some w'))
shut_here written was_shut ws p w w' at e s = inr (w, w', at, refl, e, s)

-- what a shut does to the other facts
pub shuts_there : {W : Type 0} (written : W → Option (List ℕ)) (was_shut : W → Bool) (p : ℕ) (ws ws' : List (Option W)) → Shuts written was_shut p ws ws' → connections ws' ≡ connections ws
shuts_there written was_shut p ws ws' s = elim s [ inl x ↦ ap connections x.1 | inr x ↦ same_there ws ws' p x.0 x.1 x.2 x.3 ]

pub shuts_written : {W : Type 0} (written : W → Option (List ℕ)) (was_shut : W → Bool) (p : ℕ) (ws ws' : List (Option W)) → Shuts written was_shut p ws ws' → texts written ws' ≡ texts written ws
shuts_written written was_shut p ws ws' s = elim s [ inl x ↦ ap (texts written) x.1 | inr x ↦ same_texts written ws ws' p x.0 x.1 x.2 x.3 x.4 ]

pub shuts_open : {W : Type 0} (written : W → Option (List ℕ)) (was_shut : W → Bool) (closed : List Bool) (p : ℕ) (ws ws' : List (Option W)) → Shuts written was_shut p ws ws' → slice_index_or closed p false ≡ true → AreOpen was_shut closed ws → AreOpen was_shut closed ws'
shuts_open {W = W} written was_shut closed p ws ws' s m h = elim s [ inl x ↦ (let Q : List (Option W) → Type 0 = AreOpen was_shut closed in subst Q (sym x.1) h) | inr x ↦ marked_open was_shut closed ws ws' p x.1 x.3 m h ]

-- the writers at the first places are shut
abbrev pub FirstShut : {W : Type 0} → (W → Bool) → ℕ → List (Option W) → Type 0
FirstShut {W} was_shut n ws = (q : ℕ) (w : W) → q < n → slice_get ws q ≡ Some (Some w) → was_shut w ≡ true

-- the next one was shut
pub one_shut : {W : Type 0} (written : W → Option (List ℕ)) (was_shut : W → Bool) (p : ℕ) (ws ws' : List (Option W)) → Shuts written was_shut p ws ws' → FirstShut was_shut p ws → FirstShut was_shut (p + 1) ws'
one_shut {W = W} written was_shut p ws ws' s h = λ q v l at. elim s [
  | inl x ↦
      let was : slice_get ws q ≡ Some (Some v) = sym (ap (λ l. slice_get l q) x.1) ∙ at in
      elim (below q p l) [
        | inl m ↦ h q v m was
        | inr e ↦ absurd (true≢false (sym (there_at ws q (Some v) was) ∙ ap (λ i. slice_index_or (connections ws) i false) e ∙ x.0))
      ]
  | inr x ↦
      let now : slice_get (slice_set ws p (Some x.1)) q ≡ Some (Some v) = sym (ap (λ l. slice_get l q) x.3) ∙ at in
      elim (below q p l) [
        | inl m ↦ elim (set_at ws p q (Some x.1) (Some v) now) [ inl y ↦ ap was_shut (sym (some_is x.1 v y.1)) ∙ x.5 | inr y ↦ h q v m y ]
        | inr e ↦
            let here : slice_get (slice_set ws p (Some x.1)) p ≡ Some (Some v) = ap (λ i. slice_get (slice_set ws p (Some x.1)) i) (sym e) ∙ now in
            ap was_shut (sym (some_is x.1 v (set_there ws p (Some x.1) (Some v) (Some x.0) x.2 here))) ∙ x.5
      ]
]

-- there are no more
pub all_shut : {W : Type 0} (was_shut : W → Bool) (n : ℕ) (ws : List (Option W)) → length ws ≤ n → FirstShut was_shut n ws → AreShut was_shut ws
all_shut was_shut n ws few h = λ p w at. let within = slice_get_within ws p (Some w) at in h p w (omega (arith, within, few)) at

pub still_shut : {W : Type 0} (was_shut : W → Bool) (ws ws' : List (Option W)) → ws' ≡ ws → AreShut was_shut ws → AreShut was_shut ws'
still_shut {W = W} was_shut ws ws' e h = let Q : List (Option W) → Type 0 = AreShut was_shut in subst Q (sym e) h
