-- What may be done by a client that ends once nothing is open may be done by one that follows.
use Rattle.std.proofs.Common.{◌≡◌, ℕ, Bool, true, false, ◌∷◌, [], ◌||◌, ◌&&◌, not, if◌then◌else◌, refl, ◌∙◌, ap}
use Rattle.std.proofs.lemmas.Bool.{false≢true}
use Rattle.cf_headers.specs.Chain.{Chain}
use Rattle.cf_msg.specs.declared.msg.Msg.{Msg}
use Rattle.cf_msg.specs.declared.msg.Msg.TheVariants.{GetHeaders, Ping}
use Rattle.cf_wires.specs.declared.event.Event.{Event}
use Rattle.cf_wires.specs.declared.event.Event.TheVariants.{Dialled, NotDialled, Sent, SendFailed, Closed, Took}
use Rattle.cf_wires.specs.Log.{Log}
use Rattle.cf_peer.specs.declared.mode.Mode.{Mode}
use Rattle.cf_peer.specs.declared.mode.Mode.TheVariants.{Once, Following}
use Rattle.cf_peer.specs.Trail.{Trail, Called, Said, Refused, Asked, Passed, Lost, trail, is_heard_out_in, still_heard, is_news, own, is_connected, ready}
use Rattle.cf_peer.specs.Asking.{MayAskIn, is_open, is_idle, request}
use Rattle.cf_sync.specs.Fetching.{MaySendIn, MayTake, RightlyIn}

-- ---- a peer that wasn't heard out at all wasn't since its last news

still_unheard : (m : Msg) (chain : Chain) (so_far ends : Bool) → so_far ≡ false → ends ≡ false
    → (still_heard Following m chain so_far || ends) ≡ false
still_unheard m chain so_far ends off none =
    ap (λ (b : Bool). (if is_news m chain then false else b) || ends) off
    ∙ ap (λ (b : Bool). unless (is_news m chain) || b) none ∙ by (is_news m chain) where
      unless : Bool → Bool
      unless news = if news then false else false

      by : (news : Bool) → (unless news || false) ≡ false
      by true = refl
      by false = refl

neither : (a b : Bool) → (a || b) ≡ false → (a ≡ false) × (b ≡ false)
neither true b e = cc
neither false b e = (refl, e)

pub unheard_following : (t : Trail) → is_heard_out_in Once t ≡ false → is_heard_out_in Following t ≡ false
unheard_following [] off = refl
unheard_following (Called ∷ t) off = refl
unheard_following (Said m ∷ t) off =
    let parts = neither (is_heard_out_in Once t) _ off in
    still_unheard m (own t) (is_heard_out_in Following t) _ (unheard_following t parts.0) parts.1
unheard_following (Refused c ∷ t) off = unheard_following t off
unheard_following (Asked m ∷ t) off = unheard_following t off
unheard_following (Passed s ∷ t) off = unheard_following t off
unheard_following (Lost w ∷ t) off = unheard_following t off

-- ---- so what it may be asked by the one it may be asked by the other

may_ask_following : (t : Trail) (m : Msg) → MayAskIn Once t m → MayAskIn Following t m
may_ask_following t (GetHeaders version locator stop) may =
    (may.0, unheard_following t may.1, may.2, may.3, may.4)
may_ask_following t (Ping number) may = absurd may
may_ask_following t m may = may

pub asks_following : (mode : Mode) (t : Trail) (m : Msg) → MayAskIn mode t m → MayAskIn Following t m
asks_following Once t m may = may_ask_following t m may
asks_following Following t m may = may

pub sends_following : (mode : Mode) (log : Log) (p : ℕ) (m : Msg) → MaySendIn mode log p m
    → MaySendIn Following log p m
sends_following mode log p m may = record {
  of_its_part = asks_following mode (trail log p) m may.of_its_part;
  wanted = may.wanted;
  alone = may.alone;
}

-- ---- what is open is open to a peer that is connected

both_left : (a b : Bool) → (a && b) ≡ true → a ≡ true
both_left true b e = refl
both_left false b e = absurd (false≢true e)

open_on : (t : Trail) → is_open t ≡ true → is_connected t ≡ true
open_on t e = both_left (is_connected t) (not (ready t) || not (is_idle (request t))) e

takes_following : (mode : Mode) (log : Log) → MayTake mode log → MayTake Following log
takes_following Once log busy = (busy.0, open_on (trail log busy.0) busy.1)
takes_following Following log may = may

-- ---- a log that is right by a mode is right by that of a client that follows

pub rightly_following : (mode : Mode) (log : Log) → RightlyIn mode log → RightlyIn Following log
rightly_following mode [] right = tt
rightly_following mode (Dialled p name ∷ log) right = rightly_following mode log right
rightly_following mode (NotDialled p name ∷ log) right = rightly_following mode log right
rightly_following mode (Sent p bytes ∷ log) right =
    ((right.0.0, right.0.1, sends_following mode log p.0 right.0.0 right.0.2), rightly_following mode log right.1)
rightly_following mode (SendFailed p ∷ log) right = rightly_following mode log right
rightly_following mode (Closed p ∷ log) right = (right.0, rightly_following mode log right.1)
rightly_following mode (Took d ∷ log) right = (takes_following mode log right.0, rightly_following mode log right.1)

-- a log was right before its newest entry
pub rightly_before_in : (mode : Mode) (e : Event) (log : Log) → RightlyIn mode (e ∷ log) → RightlyIn mode log
rightly_before_in mode (Dialled p name) log right = right
rightly_before_in mode (NotDialled p name) log right = right
rightly_before_in mode (Sent p bytes) log right = right.1
rightly_before_in mode (SendFailed p) log right = right
rightly_before_in mode (Closed p) log right = right.1
rightly_before_in mode (Took d) log right = right.1
