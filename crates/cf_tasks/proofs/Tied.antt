-- What a receiver with one sender knows of the one entry that it got.
use Rattle.std.proofs.Common.{◌≡◌, ◌<◌, ◌≤◌, ℕ, zero, suc, true, false, List, [], ◌∷◌, ◌++◌, sym, refl, ap, ap₂, ◌∙◌, subst, arith}
use Rattle.std.proofs.lemmas.Grind.{common_steps}
use Rattle.std.proofs.lemmas.Bool.Decides.{nat_tests}
use Rattle.cf_tasks.specs.declared.entry.Item.{Item}
use Rattle.cf_tasks.specs.declared.entry.View.{View}
use Rattle.cf_tasks.specs.declared.workers.Answer.{Answer}
use Rattle.cf_tasks.specs.Queue.{of, receiver, sender, with_sent, with_got, with_made, with_ended, entry, Stays, Accounts}

module _ {M : Type 0} where
  -- one entry was sent, and one was got, under any number
  abbrev one_and_one : M → Item M → View M
  one_and_one t x = with_ended (with_got (with_made receiver) x) (with_sent (sender 0) (entry 0 t))

  of_first : (x : Item M) (items : List (Item M)) (t : M) → of 0 (x ∷ items) ≡ entry 0 t ∷ [] → (1 ≤ x.from → of x.from (x ∷ items) ≡ []) → x.kind ≡ t
  of_first x items t e none = grind (arith, nat_tests, common_steps)

  pub tied : (v : View M) (t : M) (x : Item M) (items : List (Item M)) → v ≡ one_and_one t x → Accounts v items → x.kind ≡ t
  tied v t x items is acc =
      let Q : View M → Type 0 = λ w. Accounts w items in
      let a : Accounts (one_and_one t x) items = subst Q is acc in
      of_first x items t (a.0 0 (record { from = 0; sent = [] }) (omega arith)).1 (λ l. a.1 x.from l)

  -- the one that came is the one that was handed over
  pub came : {O : Type 0} (gives : M → O → Type 0) (before after given last : View M) (t : M) (a : Answer M O) (items : List (Item M))
      → before ≡ with_made receiver → (after ≡ with_got before (entry a.from a.of.value)) × gives a.of.value a.out → given ≡ with_sent (sender 0) (entry 0 t)
      → last ≡ with_ended after given → Accounts last items → gives t a.out
  came gives before after given last t a items b h g l acc =
      let x : Item M = entry a.from a.of.value in
      let is : last ≡ one_and_one t x = l ∙ ap₂ with_ended (h.0 ∙ ap (λ v. with_got v x) b) g in
      let Q : M → Type 0 = λ m. gives m a.out in
      subst Q (tied last t x items is acc) h.1

  -- where none came, the one that was handed over still waits
  pub waits : (before after given last end : View M) (t : M) (x : Item M) (items : List (Item M))
      → before ≡ with_made receiver → after ≡ before → given ≡ with_sent (sender 0) (entry 0 t) → last ≡ with_ended after given → end ≡ with_got last x → Accounts end items → x.kind ≡ t
  waits before after given last end t x items b a g l e acc =
      tied end t x items (e ∙ ap (λ v. with_got v x) (l ∙ ap₂ with_ended (a ∙ b) g)) acc
