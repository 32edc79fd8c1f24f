-- The log, which is kept the oldest first, and one entry more.
use Rattle.std.proofs.Common.{◌≡◌, Bool, true, List, [], ◌∷◌, ◌++◌, ◌∙◌, ap}
use Rattle.std.specs.Prelude.{◌&&◌, reverse}
use Rattle.std.specs.List.{list_all}
use Rattle.std.proofs.lemmas.List.{reverse-append}
use Rattle.cf_wires.specs.declared.event.Event.{Event}
use Rattle.cf_wires.specs.Log.{noted, tally_of}
use Rattle.cf_played.specs.Answers.{is_staying}
use Rattle.cf_played.specs.Turns.{last_served}

pub tally_kept : (later items : List Event) → later ≡ items → tally_of (reverse later) ≡ tally_of (reverse items)
tally_kept later items is = ap (λ (es : List Event). tally_of (reverse es)) is

pub tally_on : (later items : List Event) (e : Event) → later ≡ items ++ e ∷ [] → tally_of (reverse later) ≡ noted e (tally_of (reverse items))
tally_on later items e is = tally_kept later (items ++ e ∷ []) is ∙ ap tally_of (reverse-append items (e ∷ []))

pub stays_kept : (later items : List Event) → later ≡ items → list_all is_staying (reverse items) ≡ true → list_all is_staying (reverse later) ≡ true
stays_kept later items is so = ap (λ (es : List Event). list_all is_staying (reverse es)) is ∙ so

pub stays_on : (later items : List Event) (e : Event) → later ≡ items ++ e ∷ [] → is_staying e ≡ true → list_all is_staying (reverse items) ≡ true → list_all is_staying (reverse later) ≡ true
stays_on later items e is fine so =
    ap (λ (es : List Event). list_all is_staying (reverse es)) is
    ∙ ap (list_all is_staying) (reverse-append items (e ∷ []))
    ∙ ap (λ (b : Bool). b && list_all is_staying (reverse items)) fine
    ∙ so

pub turn_kept : (later items : List Event) → later ≡ items → last_served (reverse later) ≡ last_served (reverse items)
turn_kept later items is = ap (λ (es : List Event). last_served (reverse es)) is

pub turn_on : (later items : List Event) (e : Event) → later ≡ items ++ e ∷ [] → last_served (reverse later) ≡ last_served (e ∷ reverse items)
turn_on later items e is = turn_kept later (items ++ e ∷ []) is ∙ ap last_served (reverse-append items (e ∷ []))
