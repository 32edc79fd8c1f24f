-- Of the pieces received, to the source's bytes.
use Rattle.std.proofs.Common.{◌≡◌, ℕ, Bool, true, false, true≢false, not, ◌&&◌, List, [], ◌∷◌, ◌++◌, Option, Some, None, IfSome, sym, refl, ap, ◌∙◌, subst, inl, inr, append_assoc, append-nil, drop, slice_index_or}
use Rattle.cf_bytes.specs.Outside.{HasRisen}
use Rattle.cf_conn.specs.Source.{with_front}
use Rattle.cf_tasks.specs.declared.entry.Item.{Item}
use Rattle.cf_tasks.specs.Queue.{IsStart}
use Rattle.cf_outside.specs.declared.entry.EntryKind.{EntryKind}
use Rattle.cf_outside.specs.Pieces.{is_last, bytes_in, is_open, HasLast, Reads}
use Rattle.cf_outside.proofs.Readers.{joined-append}
use Rattle.cf_outside.proofs.Lasts.{last_stays}

tail_eq : (x y : Item EntryKind) (xs ys : List (Item EntryKind)) → x ∷ xs ≡ y ∷ ys → xs ≡ ys
tail_eq x y xs ys q = ap (drop 1) q

head_eq : (x y : Item EntryKind) (xs ys : List (Item EntryKind)) → x ∷ xs ≡ y ∷ ys → x ≡ y
head_eq x y xs ys q = ap (λ l. slice_index_or l 0 x) q

both : (a b : Bool) → a && b ≡ true → (a ≡ true) × (b ≡ true)
both true true h = (refl, refl)
both true false h = absurd (true≢false (sym h))
both false b h = absurd (true≢false (sym h))

second : (a b : Bool) → a ≡ true → a && b ≡ false → b ≡ false
second true b h k = k
second false b h k = absurd (true≢false (sym h))

-- an open list and one entry: a beginning with a last entry is the whole
pub whole_with_last : (es : List (Item EntryKind)) (e : Item EntryKind) (got rest : List (Item EntryKind)) → is_open es ≡ true → es ++ e ∷ [] ≡ got ++ rest → is_open got ≡ false → got ≡ es ++ e ∷ []
whole_with_last es e [] rest o q h = absurd (true≢false h)
whole_with_last [] e (g ∷ []) rest o q h = ap (λ z. z ∷ []) (sym (head_eq e g [] rest q))
whole_with_last [] e (g ∷ f ∷ gs) rest o q h = let t = tail_eq e g [] (f ∷ gs ++ rest) q in cc
whole_with_last (x ∷ xs) e (g ∷ gs) rest o q h =
    let t = tail_eq x g (xs ++ e ∷ []) (gs ++ rest) q in
    let hd = head_eq x g (xs ++ e ∷ []) (gs ++ rest) q in
    let o' = both (not (is_last x.kind)) (is_open xs) o in
    let g' = second (not (is_last g.kind)) (is_open gs) (ap (λ (z : Item EntryKind). not (is_last z.kind)) (sym hd) ∙ o'.0) h in
    ap (λ z. g ∷ z) (whole_with_last xs e gs rest o'.1 t g') ∙ ap (λ z. z ∷ (xs ++ e ∷ [])) (sym hd)

abbrev is_told : Option (List ℕ) → Bool
is_told None = false
is_told (Some l) = true

abbrev told : Option (List ℕ) → List ℕ
told None = []
told (Some l) = l

-- what was told begins with what was given
fronts : (f xs : List ℕ) (o : Option (List ℕ)) → Some xs ≡ with_front f o → (rest : List ℕ) × (xs ≡ f ++ rest) × (o ≡ Some rest)
fronts f xs None e = absurd (true≢false (ap is_told e))
fronts f xs (Some rest) e = (rest, ap told e, refl)

module _ {S : Type 0} (left : S → Option (List ℕ)) (faults : S → ℕ) (ended : S → Bool) where
  pub first_bytes : (a b : S) (sent got : List (Item EntryKind)) (xs : List ℕ) → Reads left faults ended a sent b → IsStart got sent → left a ≡ Some xs → IsStart (bytes_in got) xs
  first_bytes a b sent got xs r st t =
      let g = fronts (bytes_in sent ++ r.0) xs (left b) (sym t ∙ r.1) in
      let split : bytes_in sent ≡ bytes_in got ++ bytes_in st.0 = ap bytes_in st.1 ∙ joined-append got st.0 in
      (bytes_in st.0 ++ r.0 ++ g.0, g.1 ∙ ap (λ l. l ++ r.0 ++ g.0) split ∙ assoc (bytes_in got) (bytes_in st.0) r.0 g.0)
    where
      assoc : (p q s u : List ℕ) → p ++ q ++ s ++ u ≡ p ++ (q ++ s ++ u)
      assoc p q s u = ap (λ l. l ++ u) (append_assoc p q s) ∙ append_assoc p (q ++ s) u

  -- the rest is nothing at the source's end
  at_end : (o : Option (List ℕ)) (rest : List ℕ) → o ≡ Some rest → IfSome o (λ l. l ≡ []) → rest ≡ []
  at_end o rest e h = let P : Option (List ℕ) → Type 0 = λ z. IfSome z (λ l. l ≡ []) in subst P e h

  pub all_bytes : (a b : S) (sent got : List (Item EntryKind)) (xs : List ℕ) → Reads left faults ended a sent b → IsStart got sent → HasLast got → ¬ HasRisen (faults a) (faults b) → left a ≡ Some xs → bytes_in got ≡ xs
  all_bytes a b sent got xs r st l calm t =
      let g = fronts (bytes_in sent ++ r.0) xs (left b) (sym t ∙ r.1) in
      elim r.2 [
        | inl o ↦ absurd (true≢false (sym o ∙ ap is_open st.1 ∙ last_stays got st.0 l))
        | inr x ↦
            let q : x.0 ++ x.1 ∷ [] ≡ got ++ st.0 = sym x.2 ∙ st.1 in
            let whole : got ≡ sent = whole_with_last x.0 x.1 got st.0 x.3 q l ∙ sym x.2 in
            elim x.6 [
              | inl y ↦ let none = at_end (left b) g.0 g.2 y.1 in ap bytes_in whole ∙ sym (g.1 ∙ ap (λ z. bytes_in sent ++ z ++ g.0) x.5 ∙ ap (λ z. (bytes_in sent ++ []) ++ z) none ∙ append-nil (bytes_in sent ++ []) ∙ append-nil (bytes_in sent))
              | inr y ↦ absurd (calm y)
            ]
      ]
