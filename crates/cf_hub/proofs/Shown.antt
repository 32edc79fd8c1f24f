-- What the deliveries that were given show of the sources and of the pulse.
use Rattle.std.proofs.Common.{◌≡◌, ◌⊎◌, ◌<◌, ℕ, Bool, true, false, true≢false, not, List, [], ◌∷◌, ◌++◌, Option, Some, None, take, get_or, All, sym, refl, ap, ◌∙◌, subst, inl, inr, append_assoc}
use Rattle.cf_bytes.specs.Outside.{HasRisen, with_more}
use Rattle.cf_tasks.specs.declared.entry.Item.{Item}
use Rattle.cf_tasks.specs.Queue.{of, IsStart}
use Rattle.cf_outside.specs.declared.entry.EntryKind.{EntryKind}
use Rattle.cf_outside.specs.Pieces.{is_open, Reads, HasLast}
use Rattle.cf_outside.specs.Ticks.{ticks, Ticked}
use Rattle.std.specs.Option.{ForSome}
use Rattle.cf_hub.specs.Finish.{Read, Beat, Fronts}
use Rattle.cf_hub.specs.Shown.{Shows, ShowsTicks}
use Rattle.cf_hub.specs.Gives.{given_of, pieces_of, has_gone, ticks_of, IsFront}
use Rattle.cf_hub.proofs.Gives.{cut_of, pieces_given, ticks_given, gone_given}
use Rattle.cf_outside.proofs.Bytes.{first_bytes, all_bytes}
use Rattle.cf_outside.proofs.Lasts.{last_stays}
use Rattle.cf_outside.proofs.Tickers.{ticks-append}

was_true : (b : Bool) → not b ≡ true → b ≡ false
was_true true h = absurd (true≢false (sym h))
was_true false h = refl

abbrev told : Option (List ℕ) → List ℕ
told None = []
told (Some l) = l

module _ {S : Type 0} (left : S → Option (List ℕ)) (faults : S → ℕ) (ended : S → Bool) where
  pub first_given : (j : Read S) (got : List (Item EntryKind)) (k : ℕ) (xs : List ℕ) → 0 < j.number → Reads left faults ended j.before j.sent j.after
      → IsFront (of j.number got) j.sent → left j.before ≡ Some xs → IsStart (pieces_of j.number (take k (given_of got))) xs
  first_given j got k xs l r f t =
      let c = cut_of j.number k got j.sent f in
      let Q : List ℕ → Type 0 = λ b. IsStart b xs in
      subst Q (sym (ap (pieces_of j.number) c.2 ∙ pieces_given j.number l c.0)) (first_bytes left faults ended j.before j.after j.sent (of j.number c.0) xs r c.1 t)

  pub all_given : (j : Read S) (got : List (Item EntryKind)) (k : ℕ) (xs : List ℕ) → 0 < j.number → Reads left faults ended j.before j.sent j.after
      → IsFront (of j.number got) j.sent → has_gone j.number (take k (given_of got)) ≡ true → ¬ HasRisen (faults j.before) (faults j.after)
      → left j.before ≡ Some xs → pieces_of j.number (take k (given_of got)) ≡ xs
  all_given j got k xs l r f h calm t =
      let c = cut_of j.number k got j.sent f in
      let last : HasLast (of j.number c.0) = was_true (is_open (of j.number c.0)) (sym (ap (has_gone j.number) c.2 ∙ gone_given j.number l c.0) ∙ h) in
      ap (pieces_of j.number) c.2 ∙ pieces_given j.number l c.0 ∙ all_bytes left faults ended j.before j.after j.sent (of j.number c.0) xs r c.1 last calm t

  pub gone_cause : (j : Read S) (got : List (Item EntryKind)) (k : ℕ) → 0 < j.number → Reads left faults ended j.before j.sent j.after
      → IsFront (of j.number got) j.sent → has_gone j.number (take k (given_of got)) ≡ true
      → (ended j.after ≡ true) ⊎ HasRisen (faults j.before) (faults j.after)
  gone_cause j got k l r f h =
      let c = cut_of j.number k got j.sent f in
      let last : HasLast (of j.number c.0) = was_true (is_open (of j.number c.0)) (sym (ap (has_gone j.number) c.2 ∙ gone_given j.number l c.0) ∙ h) in
      elim r.2 [
        | inl o ↦ absurd (true≢false (sym o ∙ ap is_open c.1.1 ∙ last_stays (of j.number c.0) c.1.0 last))
        | inr x ↦ elim x.6 [ inl y ↦ inl y.0 | inr y ↦ inr y ]
      ]

pub first_ticks : {P : Type 0} (answers : P → Option (List ℕ)) (b : Beat P) (got : List (Item EntryKind)) (k : ℕ) (earlier xs : List ℕ) → Ticked answers b.before b.sent b.after
    → IsFront (of 0 got) b.sent → answers b.before ≡ Some earlier → answers b.after ≡ Some xs → IsStart (earlier ++ ticks_of (take k (given_of got))) xs
first_ticks answers b got k earlier xs t f was is =
    let c = cut_of 0 k got b.sent f in
    let all : xs ≡ earlier ++ (ticks b.sent ++ t.0 ∷ []) = ap told (sym is ∙ t.1 ∙ ap (λ o. with_more o (ticks b.sent ++ t.0 ∷ [])) was) in
    let split : ticks b.sent ≡ ticks (of 0 c.0) ++ ticks c.1.0 = ap ticks c.1.1 ∙ ticks-append (of 0 c.0) c.1.0 in
    let given : ticks_of (take k (given_of got)) ≡ ticks (of 0 c.0) = ap ticks_of c.2 ∙ ticks_given c.0 in
    let rest : List ℕ = ticks c.1.0 ++ t.0 ∷ [] in (
      rest,
      all ∙ ap (λ l. earlier ++ (l ++ t.0 ∷ [])) split ∙ ap (λ l. earlier ++ l) (append_assoc (ticks (of 0 c.0)) (ticks c.1.0) (t.0 ∷ []))
          ∙ ap (λ l. earlier ++ (l ++ rest)) (sym given) ∙ sym (append_assoc earlier (ticks_of (take k (given_of got))) rest),
    )

module _ {S : Type 0} (left : S → Option (List ℕ)) (faults : S → ℕ) (ended : S → Bool) where
  -- what the first deliveries show of each source that was read
  pub all_show : (js : List (Read S)) (got : List (Item EntryKind)) (k : ℕ) → All (λ j. Reads left faults ended j.before j.sent j.after) js → Fronts got js → All (Shows left faults ended (take k (given_of got))) js
  all_show js got k r f = λ i d l.
      let j : Read S = get_or js i d in
      let n = (f i d l).0 in
      let front = (f i d l).1 in
      record {
        first = λ xs t. first_given left faults ended j got k xs n (r i d l) front t;
        whole = λ xs t h calm. all_given left faults ended j got k xs n (r i d l) front h calm t;
        cause = λ h. gone_cause left faults ended j got k n (r i d l) front h;
      }

pub shows_ticks : {P : Type 0} (answers : P → Option (List ℕ)) (o : Option (Beat P)) (got : List (Item EntryKind)) (k : ℕ) → ForSome o (λ b. Ticked answers b.before b.sent b.after)
    → ForSome o (λ b. IsFront (of 0 got) b.sent) → ForSome o (ShowsTicks answers (take k (given_of got)))
shows_ticks answers o got k t f = λ b is earlier xs was all. first_ticks answers b got k earlier xs (t b is) (f b is) was all
