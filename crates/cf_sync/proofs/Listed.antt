-- What stands in a list.
use Rattle.std.proofs.Common.{◌≡◌, ◌⊎◌, inl, inr, List, [], ◌∷◌, ◌++◌, reverse, subst, sym}
use Rattle.std.proofs.lemmas.List.{reverse-append}
use Rattle.cf_headers.specs.Chain.{IsIn}

pub in_left : {A : Type 0} (x : A) (xs ys : List A) → IsIn x xs → IsIn x (xs ++ ys)
in_left x [] ys i = absurd i
in_left x (y ∷ xs) ys (inl e) = inl e
in_left x (y ∷ xs) ys (inr i) = inr (in_left x xs ys i)

pub in_right : {A : Type 0} (x : A) (xs ys : List A) → IsIn x ys → IsIn x (xs ++ ys)
in_right x [] ys i = i
in_right x (y ∷ xs) ys i = inr (in_right x xs ys i)

pub in_either : {A : Type 0} (x : A) (xs ys : List A) → IsIn x (xs ++ ys) → IsIn x xs ⊎ IsIn x ys
in_either x [] ys i = inr i
in_either x (y ∷ xs) ys (inl e) = inl (inl e)
in_either x (y ∷ xs) ys (inr i) = elim (in_either x xs ys i) [ inl a ↦ inl (inr a) | inr b ↦ inr b ]

-- the list with its first element put last
turned : {A : Type 0} (y : A) (xs : List A) → reverse (y ∷ xs) ≡ reverse xs ++ y ∷ []
turned y xs = reverse-append (y ∷ []) xs

pub in_reverse : {A : Type 0} (x : A) (xs : List A) → IsIn x (reverse xs) → IsIn x xs
in_reverse x [] i = i
in_reverse {A = A} x (y ∷ xs) i = elim (in_either x (reverse xs) (y ∷ []) (subst (λ (l : List A). IsIn x l) (turned y xs) i)) [
  | inl old ↦ inr (in_reverse x xs old)
  | inr new ↦ elim new [ inl e ↦ inl e | inr none ↦ absurd none ]
]

pub reverse_in : {A : Type 0} (x : A) (xs : List A) → IsIn x xs → IsIn x (reverse xs)
reverse_in x [] i = i
reverse_in {A = A} x (y ∷ xs) (inl e) = subst (λ (l : List A). IsIn x l) (sym (turned y xs)) (in_right x (reverse xs) (y ∷ []) (inl e))
reverse_in {A = A} x (y ∷ xs) (inr i) = subst (λ (l : List A). IsIn x l) (sym (turned y xs)) (in_left x (reverse xs) (y ∷ []) (reverse_in x xs i))
