-- Of an orderly run: whenever a delivery was taken each connected peer had been sent a version.
use Rattle.std.proofs.Common.{◌≡◌, ℕ, List, [], ◌∷◌, ◌++◌, Bool, true, false, refl, sym, ◌∙◌, ap}
use Rattle.std.specs.Prelude.{◌||◌}
use Rattle.std.specs.List.{list_any}
use Rattle.cf_msg.specs.declared.msg.Msg.{Msg}
use Rattle.cf_msg.specs.declared.msg.Msg.TheVariants.{Version}
use Rattle.cf_msg.specs.Message.{is_version}
use Rattle.cf_wires.specs.declared.event.Event.TheVariants.{Dialled, NotDialled, Sent, SendFailed, Closed, Took}
use Rattle.cf_wires.specs.Log.{Log}
use Rattle.cf_peer.specs.Trail.{Trail, Called, Said, Refused, Asked, Passed, Lost, trail, is_connected, is_greeted, IsClientVersion}
use Rattle.cf_sync.specs.Honesty.{messages_asked}
use Rattle.cf_place.specs.Standing.{IsGreetedBy}
use Rattle.cf_run.specs.Run.{WasOrderly}

-- whenever a delivery was taken each connected peer had been sent a version
abbrev pub IsGreetedWhere : Trail → Type 0
IsGreetedWhere t = is_connected t ≡ true → is_greeted t ≡ true

abbrev pub WereGreeted : Log → Type 0
WereGreeted [] = Unit {0}
WereGreeted (Dialled q name ∷ log) = WereGreeted log
WereGreeted (NotDialled q name ∷ log) = WereGreeted log
WereGreeted (Sent q bytes ∷ log) = WereGreeted log
WereGreeted (SendFailed q ∷ log) = WereGreeted log
WereGreeted (Closed q ∷ log) = WereGreeted log
WereGreeted (Took d ∷ log) = ((p : ℕ) → IsGreetedWhere (trail log p)) × WereGreeted log

swap : (a b c : Bool) → (a || (b || c)) ≡ (b || (a || c))
swap true true c = refl
swap true false c = refl
swap false b c = refl

any_last : (xs : List Msg) (m : Msg) → list_any is_version (xs ++ m ∷ []) ≡ (is_version m || list_any is_version xs)
any_last [] m = refl
any_last (x ∷ xs) m = ap (λ b. is_version x || b) (any_last xs m) ∙ swap (is_version x) (is_version m) (list_any is_version xs)

any_greeted : (t : Trail) → list_any is_version (messages_asked t) ≡ is_greeted t
any_greeted [] = refl
any_greeted (Called ∷ t) = refl
any_greeted (Said m ∷ t) = any_greeted t
any_greeted (Refused c ∷ t) = any_greeted t
any_greeted (Asked m ∷ t) = any_last (messages_asked t) m ∙ ap (λ b. is_version m || b) (any_greeted t)
any_greeted (Passed s ∷ t) = any_greeted t
any_greeted (Lost w ∷ t) = any_greeted t

ours_is : (m : Msg) → IsClientVersion m → is_version m ≡ true
ours_is (Version version services time to from nonce agent height relay) h = refl
ours_is m h = absurd h

by_greeting : (ms : List Msg) → IsGreetedBy ms → list_any is_version ms ≡ true
by_greeting [] h = absurd h
by_greeting (m ∷ more) h = ap (λ b. b || list_any is_version more) (ours_is m h.0)

pub were_greeted : (log : Log) → WasOrderly log → WereGreeted log
were_greeted [] order = tt
were_greeted (Dialled p name ∷ log) order = were_greeted log order
were_greeted (NotDialled p name ∷ log) order = were_greeted log order
were_greeted (Sent p bytes ∷ log) order = were_greeted log order
were_greeted (SendFailed p ∷ log) order = were_greeted log order.1
were_greeted (Closed p ∷ log) order = were_greeted log order.1
were_greeted (Took d ∷ log) order = ((λ p on. sym (any_greeted (trail log p)) ∙ by_greeting (messages_asked (trail log p)) (order.0.answered p on).greeted), were_greeted log order.1)
