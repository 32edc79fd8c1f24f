-- Lists side by side, and lists that are told.
use Rattle.std.proofs.Common.{◌≡◌, suc, List, [], ◌∷◌, ◌++◌, Option, Some, None, length, refl, ap, sym, append_assoc, append-nil}
use Rattle.std.specs.List.{AllZip}
use Rattle.cf_link.specs.Links.{longer_by}

pub zip_append : {A B : Type 0} (R : A → B → Type 0) (xs : List A) (ys : List B) (us : List A) (vs : List B) → AllZip R xs ys → AllZip R us vs → AllZip R (xs ++ us) (ys ++ vs)
zip_append R [] [] us vs h k = k
zip_append R [] (_ ∷ _) us vs h k = absurd h
zip_append R (_ ∷ _) [] us vs h k = absurd h
zip_append R (x ∷ xs) (y ∷ ys) us vs h k = (h.0, zip_append R xs ys us vs h.1 k)

pub zip_split : {A B : Type 0} (R : A → B → Type 0) (xs : List A) (ys zs : List B) → AllZip R xs (ys ++ zs) → (us : List A) × (vs : List A) × (xs ≡ us ++ vs) × AllZip R us ys × AllZip R vs zs
zip_split R xs [] zs h = ([], xs, refl, tt, h)
zip_split R [] (_ ∷ _) zs h = absurd h
zip_split R (x ∷ xs) (y ∷ ys) zs h =
    let r = zip_split R xs ys zs h.1 in
    (x ∷ r.0, r.1, ap (λ l. x ∷ l) r.2, (h.0, r.3), r.4)

pub zip_through : {A B D : Type 0} (R : A → B → Type 0) (T : B → D → Type 0) (Q : A → D → Type 0) → ((a : A) (b : B) (d : D) → R a b → T b d → Q a d)
    → (xs : List A) (ys : List B) (zs : List D) → AllZip R xs ys → AllZip T ys zs → AllZip Q xs zs
zip_through R T Q f [] [] [] h k = tt
zip_through R T Q f [] [] (_ ∷ _) h k = absurd k
zip_through R T Q f [] (_ ∷ _) zs h k = absurd h
zip_through R T Q f (_ ∷ _) [] zs h k = absurd h
zip_through R T Q f (x ∷ xs) (y ∷ ys) [] h k = absurd k
zip_through R T Q f (x ∷ xs) (y ∷ ys) (z ∷ zs) h k = (f x y z h.0 k.0, zip_through R T Q f xs ys zs h.1 k.1)

pub zip_length : {A B : Type 0} (R : A → B → Type 0) (xs : List A) (ys : List B) → AllZip R xs ys → length xs ≡ length ys
zip_length R [] [] h = refl
zip_length R [] (_ ∷ _) h = absurd h
zip_length R (_ ∷ _) [] h = absurd h
zip_length R (x ∷ xs) (y ∷ ys) h = ap (λ n. suc n) (zip_length R xs ys h.1)

pub none_more : {X : Type 0} (o : Option (List X)) → o ≡ longer_by o []
none_more None = refl
none_more (Some l) = ap (λ z. Some z) (sym (append-nil l))

pub longer_twice : {X : Type 0} (o : Option (List X)) (xs ys : List X) → longer_by (longer_by o xs) ys ≡ longer_by o (xs ++ ys)
longer_twice None xs ys = refl
longer_twice (Some l) xs ys = ap (λ z. Some z) (append_assoc l xs ys)
