-- What the steps of a reader add up to.
use Rattle.std.proofs.Common.{◌⊎◌, ◌≡◌, ℕ, Bool, true, false, not, ◌&&◌, List, [], ◌∷◌, ◌++◌, Option, Some, None, IfSome, sym, refl, ap, ◌∙◌, subst, inl, inr, append_assoc, append-nil, arith}
use Rattle.std.proofs.lemmas.Grind.{common_steps}
use Rattle.cf_bytes.specs.Outside.{HasRisen}
use Rattle.cf_conn.specs.Source.{with_front}
use Rattle.cf_tasks.specs.declared.entry.Item.{Item}
use Rattle.cf_tasks.specs.Queue.{entry}
use Rattle.cf_outside.specs.declared.entry.EntryKind.{EntryKind}
use Rattle.cf_outside.specs.declared.entry.EntryKind.TheVariants.{Got, Last}
use Rattle.cf_outside.specs.Pieces.{bytes_of, is_last, bytes_in, is_open, Gives, Ends, Goes, Stops, Reads, HasStopped}
use Rattle.cf_outside.proofs.Lasts.{closes}

pub joined-append : (xs ys : List (Item EntryKind)) → bytes_in (xs ++ ys) ≡ bytes_in xs ++ bytes_in ys
joined-append [] ys = refl
joined-append (x ∷ xs) ys = ap (λ l. bytes_of x.kind ++ l) (joined-append xs ys) ∙ sym (append_assoc (bytes_of x.kind) (bytes_in xs) (bytes_in ys))

pub is_open-snoc : (xs : List (Item EntryKind)) (x : Item EntryKind) → is_open xs ≡ true → is_last x.kind ≡ false → is_open (xs ++ x ∷ []) ≡ true
is_open-snoc [] x o l = ap (λ b. not b && true) l
is_open-snoc (y ∷ ys) x o l = grind (arith, common_steps, is_open-snoc ys x)

front_nil : (o : Option (List ℕ)) → o ≡ with_front [] o
front_nil None = refl
front_nil (Some l) = refl

front_front : (xs ys : List ℕ) (o : Option (List ℕ)) → with_front xs (with_front ys o) ≡ with_front (xs ++ ys) o
front_front xs ys None = refl
front_front xs ys (Some l) = ap (λ z. Some z) (sym (append_assoc xs ys l))

-- where nothing is before what is left, and it is nothing, nothing is left
pub none_after : (o q : Option (List ℕ)) → o ≡ with_front [] q → IfSome o (λ l. l ≡ []) → IfSome q (λ l. l ≡ [])
none_after o None e h = tt
none_after o (Some l) e h = let P : Option (List ℕ) → Type 0 = λ z. IfSome z (λ m. m ≡ []) in subst P e h

module _ {S : Type 0} (left : S → Option (List ℕ)) where
  pub gives_nothing : (a : S) → Gives left a [] a
  gives_nothing a = front_nil (left a)

  pub gives_more : (a b c : S) (xs ys : List ℕ) → Gives left a xs b → Gives left b ys c → Gives left a (xs ++ ys) c
  gives_more a b c xs ys g h = g ∙ ap (with_front xs) h ∙ front_front xs ys (left c)

  module _ (faults : S → ℕ) (ended : S → Bool) where
    -- what a reader has done so far
    abbrev pub SoFar : S → List (Item EntryKind) → S → Type 0
    SoFar a sent b = (is_open sent ≡ true) × Gives left a (bytes_in sent) b × (faults b ≡ faults a)

    pub starts : (a : S) → SoFar a [] a
    starts a = (refl, gives_nothing a, refl)

    pub goes_on : (a b c : S) (p : ℕ) (sent sent' : List (Item EntryKind)) → SoFar a sent b → Goes left faults p b sent sent' c → SoFar a sent' c
    goes_on a b c p sent sent' h g =
        let e : Item EntryKind = entry p (Got g.0) in
        let Q : List (Item EntryKind) → Type 0 = λ l. SoFar a l c in
        subst Q (sym g.1) (
          is_open-snoc sent e h.0 refl,
          (let G : List ℕ → Type 0 = λ l. Gives left a l c in subst G (ap (λ l. bytes_in sent ++ l) (sym (append-nil g.0)) ∙ sym (joined-append sent (e ∷ []))) (gives_more a b c (bytes_in sent) g.0 h.1 g.2)),
          g.3 ∙ h.2,
        )

    pub stops : (a b c : S) (p : ℕ) (sent sent' : List (Item EntryKind)) (returned returned' : ℕ) → SoFar a sent b → Stops left faults ended p b sent returned sent' returned' c → Reads left faults ended a sent' c
    stops a b c p sent sent' returned returned' h g =
        let e : Item EntryKind = entry p Last in
        let Q : List (Item EntryKind) → Type 0 = λ l. Reads left faults ended a l c in
        let G : List ℕ → Type 0 = λ l. Gives left a l c in
        let F : ℕ → Type 0 = λ n. HasRisen n (faults c) in
        elim g [
          | inl x ↦ subst Q (sym x.0) (
            [],
            subst G (sym (joined-append sent (e ∷ [])) ∙ sym (append-nil (bytes_in (sent ++ e ∷ [])))) (gives_more a b c (bytes_in sent) [] h.1 x.1),
            inr (sent, e, refl, h.0, refl, refl, elim x.2 [ inl y ↦ inl y | inr y ↦ inr (subst F h.2 y) ]),
          )
          | inr x ↦ subst Q (sym x.0) (x.2.0, gives_more a b c (bytes_in sent) x.2.0 h.1 x.2.1, inl h.0)
        ]

    -- it stops only once a last entry was sent, or one came back
    pub has_stopped : (b c : S) (p : ℕ) (sent sent' : List (Item EntryKind)) (first returned returned' : ℕ) → returned ≡ first → Stops left faults ended p b sent returned sent' returned' c → HasStopped first sent' returned'
    has_stopped b c p sent sent' first returned returned' e g =
        let F : ℕ → Type 0 = λ n. HasRisen n returned' in
        elim g [ inl x ↦ inl (ap is_open x.0 ∙ closes sent p) | inr x ↦ inr (subst F e x.1) ]

    pub last_sent : (a b : S) (p : ℕ) (sent sent' : List (Item EntryKind)) (returned returned' : ℕ) → (sent' ≡ sent ++ entry p Last ∷ []) ⊎ ((sent' ≡ sent) × HasRisen returned returned') → Gives left a [] b → Ends left faults ended a b → Stops left faults ended p a sent returned sent' returned' b
    last_sent a b p sent sent' returned returned' l g e = elim l [ inl x ↦ inl (x, g, e) | inr x ↦ inr (x.0, x.1, ([], g)) ]
