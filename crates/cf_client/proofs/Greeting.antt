-- Which version is sent: that of the client's greeting alone.
use Rattle.std.proofs.Common.{◌≡◌, ◌==◌, inl, inr, ℕ, List, [], ◌∷◌, Option, Some, None, Bool, true, false, if◌then◌else◌, refl, sym, ◌∙◌, ap, subst}
use Rattle.std.specs.Prelude.{◌||◌}
use Rattle.std.specs.List.{All}
use Rattle.std.proofs.lemmas.Bool.{cases_eq, both_ways}
use Rattle.std.proofs.lemmas.List.Elements.{All-nil, All-cons}
use Rattle.cf_bytes.specs.declared.peer.PeerNo.{PeerNo}
use Rattle.cf_headers.specs.declared.store.HeaderStore.{Ghosts}
use Rattle.cf_match.specs.declared.matcher.Matcher.{Ghosts as Judges}
use Rattle.cf_msg.specs.declared.msg.Msg.{Msg}
use Rattle.cf_msg.specs.declared.msg.Msg.TheVariants.{Version}
use Rattle.cf_msg.specs.Message.{is_version}
use Rattle.cf_peer.specs.declared.act.Act.{Act}
use Rattle.cf_peer.specs.declared.act.Act.TheVariants.{Send, Close}
use Rattle.cf_peer.specs.declared.mode.Mode.{Mode}
use Rattle.cf_wires.specs.declared.event.Delivery.{Delivery}
use Rattle.cf_wires.specs.declared.event.Delivery.TheVariants.{Got, Gone, Tick, Ended}
use Rattle.cf_wires.specs.declared.event.Event.TheVariants.{Sent, Closed, Took}
use Rattle.cf_wires.specs.declared.event.Mark.TheVariants as mark
use Rattle.cf_peer.specs.Acts.{bytes_of}
use Rattle.cf_wires.specs.Log.{Log}
use Rattle.cf_peer.specs.Trail.{Trail, Part, Lost, part_of, trail, asks, spelled, with_item, heard_part, is_connected, is_greeted}
use Rattle.cf_peer.specs.Asking.{MayAskIn}
use Rattle.cf_sync.specs.Fetching.{Rule}
use Rattle.cf_client.specs.declared.client.Client.{Client}
use Rattle.cf_place.specs.declared.place.Place.{Place}
use Rattle.cf_place.specs.declared.place.Place.TheVariants.{Here, Lost as LostPlace}
use Rattle.cf_place.specs.Places.{Fits, CutFor, ActTells, Allowed, place_at}
use Rattle.cf_place.specs.Standing.{Greeting, TellsGreeting}
use Rattle.cf_client.specs.Stands.{Reflects}
use Rattle.cf_client.proofs.Taking.{heard_says}

-- a connected peer was greeted
abbrev pub IsGreetedOn : Trail → Type 0
IsGreetedOn t = is_connected t ≡ true → is_greeted t ≡ true

abbrev pub AreGreeted : Log → Type 0
AreGreeted log = (p : ℕ) → IsGreetedOn (trail log p)

at_if : (b : Bool) (a part : Part) → IsGreetedOn a.trail → IsGreetedOn part.trail → IsGreetedOn (if b then a else part).trail
at_if true a part more same = more
at_if false a part more same = same

or_right : (a : Bool) {b : Bool} → b ≡ true → (a || b) ≡ true
or_right true is = refl
or_right false is = is

asked_greeted : (o : Option Msg) (t : Trail) → IsGreetedOn t → IsGreetedOn (asks o t)
asked_greeted None t is = is
asked_greeted (Some m) t is = λ on. or_right (is_version m) (is on)

off_greeted : (t : Trail) → is_connected t ≡ false → IsGreetedOn t
off_greeted t off = λ on. absurd (both_ways (is_connected t) off on)

sent_greeted : (log : Log) (p : PeerNo) (bytes : List ℕ) → AreGreeted log → AreGreeted (Sent p bytes ∷ log)
sent_greeted log p bytes all = λ q.
    at_if (p.0 == q) (record (part_of log q) { trail = asks (spelled bytes) (trail log q) }) (part_of log q) (asked_greeted (spelled bytes) (trail log q) (all q)) (all q)

closed_greeted : (log : Log) (p : PeerNo) → AreGreeted log → AreGreeted (Closed p ∷ log)
closed_greeted log p all = λ q. at_if (p.0 == q) (with_item (Lost mark.Closed) (part_of log q)) (part_of log q) (off_greeted (Lost mark.Closed ∷ trail log q) refl) (all q)

took_greeted : (log : Log) (d : Delivery) → AreGreeted log → AreGreeted (Took d ∷ log)
took_greeted log (Got p piece) all = λ q.
    let says = heard_says piece (part_of log q) in
    at_if (p.0 == q) (heard_part piece (part_of log q)) (part_of log q) (λ on. says.greets ∙ all q (sym says.on ∙ on)) (all q)
took_greeted log (Gone p) all = λ q. at_if (p.0 == q) (with_item (Lost mark.Gone) (part_of log q)) (part_of log q) (off_greeted (Lost mark.Gone ∷ trail log q) refl) (all q)
took_greeted log (Tick seconds) all = all
took_greeted log Ended all = all

place_greeted : (place : Place) (part : Part) → Fits place part → IsGreetedOn part.trail
place_greeted (Here peer) part keeps = λ on. keeps.holds.called
place_greeted (LostPlace loss) part lost = off_greeted part.trail lost.off

pub reflects_greeted : {H M : Type 0} {g : Ghosts H} {j : Judges M} (c : Client H M g j) (log : Log) → Reflects c log → AreGreeted log
reflects_greeted c log reflects = λ p. place_greeted (place_at c.places.items p) (part_of log p) (reflects.places.each p)

-- after a delivery, and after a failed send
pub reflects_took : {H M : Type 0} {g : Ghosts H} {j : Judges M} (c : Client H M g j) (log : Log) (d : Delivery) → Reflects c log → AreGreeted (Took d ∷ log)
reflects_took c log d reflects = took_greeted log d (reflects_greeted c log reflects)

pub reflects_cut : {H M : Type 0} {g : Ghosts H} {j : Judges M} (c : Client H M g j) (p : PeerNo) (log cut : Log) → CutFor p log cut → Reflects c log → AreGreeted cut
reflects_cut c p log cut is reflects = λ q. elim (cases_eq q p.0) [
  | inl same ↦ off_greeted (trail cut q) (ap (λ (k : ℕ). is_connected (trail cut k)) same ∙ is.off)
  | inr other ↦ subst (λ (x : Part). IsGreetedOn x.trail) (sym (is.others q other)) (reflects_greeted c log reflects q)
]

-- who was greeted is sent no version again
asked_tells : (mode : Mode) (greeting : Greeting) (t : Trail) (m : Msg) → IsGreetedOn t → MayAskIn mode t m → TellsGreeting greeting m
asked_tells mode greeting t (Version version services time to from nonce agent height relay) is may = absurd (both_ways (is_greeted t) may.1 (is may.0))
asked_tells mode greeting t m is may = tt

-- where each connected peer was greeted, no act that is allowed sends a version
pub acts_tell : (rule : Rule) (greeting : Greeting) (acts : List Act) (log : Log) → AreGreeted log → Allowed rule acts log → All (ActTells greeting) acts
acts_tell rule greeting [] log all allowed = All-nil (ActTells greeting)
acts_tell rule greeting (Send p m ∷ acts) log all allowed =
    All-cons (ActTells greeting) (Send p m) acts (asked_tells rule.mode greeting (trail log p.0) m (all p.0) allowed.0.2.of_its_part)
    (acts_tell rule greeting acts (Sent p (bytes_of m) ∷ log) (sent_greeted log p (bytes_of m) all) allowed.1)
acts_tell rule greeting (Close p cause ∷ acts) log all allowed =
    All-cons (ActTells greeting) (Close p cause) acts tt (acts_tell rule greeting acts (Closed p ∷ log) (closed_greeted log p all) allowed.1)
