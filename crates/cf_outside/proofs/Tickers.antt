-- What the steps of a ticker add up to.
use Rattle.std.proofs.Common.{◌≡◌, ℕ, Bool, List, [], ◌∷◌, ◌++◌, Option, Some, None, sym, refl, ap, ◌∙◌, subst, inl, inr, append_assoc, append-nil}
use Rattle.cf_bytes.specs.Outside.{HasRisen, with_more}
use Rattle.cf_tasks.specs.declared.entry.Item.{Item}
use Rattle.cf_tasks.specs.Queue.{entry}
use Rattle.cf_outside.specs.declared.entry.EntryKind.{EntryKind}
use Rattle.cf_outside.specs.declared.entry.EntryKind.TheVariants.{Tick, Last}
use Rattle.cf_outside.specs.Ticks.{seconds_of, ticks, TicksOn, TicksOff, Ticked, WasTold}
use Rattle.cf_outside.specs.Pieces.{is_open, HasStopped}
use Rattle.cf_outside.proofs.Lasts.{closes}

pub ticks-append : (xs ys : List (Item EntryKind)) → ticks (xs ++ ys) ≡ ticks xs ++ ticks ys
ticks-append [] ys = refl
ticks-append (x ∷ xs) ys = ap (λ l. seconds_of x.kind ++ l) (ticks-append xs ys) ∙ sym (append_assoc (seconds_of x.kind) (ticks xs) (ticks ys))

more_nil : (o : Option (List ℕ)) → o ≡ with_more o []
more_nil None = refl
more_nil (Some l) = ap (λ z. Some z) (sym (append-nil l))

more_more : (o : Option (List ℕ)) (xs ys : List ℕ) → with_more (with_more o xs) ys ≡ with_more o (xs ++ ys)
more_more None xs ys = refl
more_more (Some l) xs ys = ap (λ z. Some z) (append_assoc l xs ys)

module _ {P : Type 0} (answers : P → Option (List ℕ)) where
  -- each answer so far was sent
  abbrev pub SoFar : P → List (Item EntryKind) → P → Type 0
  SoFar a sent b = answers b ≡ with_more (answers a) (ticks sent)

  pub starts : (a : P) → SoFar a [] a
  starts a = more_nil (answers a)

  pub goes_on : (a b c : P) (p : ℕ) (sent sent' : List (Item EntryKind)) → SoFar a sent b → TicksOn answers p b sent sent' c → SoFar a sent' c
  goes_on a b c p sent sent' h g =
      let Q : List (Item EntryKind) → Type 0 = λ l. SoFar a l c in
      subst Q (sym g.1) (g.2 ∙ ap (λ o. with_more o (g.0 ∷ [])) h ∙ more_more (answers a) (ticks sent) (g.0 ∷ []) ∙ ap (with_more (answers a)) (sym (ticks-append sent (entry p (Tick g.0) ∷ []))))

  -- it stops only once a last entry was sent, or one came back
  pub has_stopped : (b c : P) (p : ℕ) (sent sent' : List (Item EntryKind)) (first returned returned' : ℕ) (told : Bool) → returned ≡ first → TicksOff answers p b sent returned sent' returned' c told → HasStopped first sent' returned'
  has_stopped b c p sent sent' first returned returned' told e g =
      let F : ℕ → Type 0 = λ n. HasRisen n returned' in
      elim g.0 [ inl x ↦ inl (ap is_open x.0 ∙ closes sent p) | inr x ↦ inr (subst F e x.1) ]

  -- it stops only once it is told to, or an entry came back
  pub was_told : (b c : P) (p : ℕ) (sent sent' : List (Item EntryKind)) (first returned returned' : ℕ) (told : Bool) → returned ≡ first → TicksOff answers p b sent returned sent' returned' c told → WasTold told first returned'
  was_told b c p sent sent' first returned returned' told e g =
      let F : ℕ → Type 0 = λ n. HasRisen n returned' in
      elim g.0 [ inl x ↦ inl x.1 | inr x ↦ inr (subst F e x.1) ]

  pub stops : (a b c : P) (p : ℕ) (sent sent' : List (Item EntryKind)) (returned returned' : ℕ) (told : Bool) → SoFar a sent b → TicksOff answers p b sent returned sent' returned' c told → Ticked answers a sent' c
  stops a b c p sent sent' returned returned' told h g =
      let s : ℕ = g.1.0 in
      let all : answers c ≡ with_more (answers a) (ticks sent ++ s ∷ []) = g.1.1 ∙ ap (λ o. with_more o (s ∷ [])) h ∙ more_more (answers a) (ticks sent) (s ∷ []) in
      let Q : List (Item EntryKind) → Type 0 = λ l. Ticked answers a l c in
      elim g.0 [
        | inl x ↦ subst Q (sym x.0) (s, all ∙ ap (λ l. with_more (answers a) (l ++ s ∷ [])) (sym (ticks-append sent (entry p Last ∷ []) ∙ append-nil (ticks sent))))
        | inr x ↦ subst Q (sym x.0) (s, all)
      ]
