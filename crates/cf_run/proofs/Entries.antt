-- What an entry changes of a peer's part, of which failed sends aren't told, and whom an act closes.
use Rattle.std.proofs.Common.{◌≡◌, ◌≢◌, inl, inr, ℕ, List, ◌∷◌, Option, Some, None, Bool, true, false, refl, sym, ◌∙◌, ap, arith, if◌then◌else◌}
use Rattle.std.specs.Prelude.{◌||◌, ◌==◌}
use Rattle.std.specs.List.{list_any}
use Rattle.std.proofs.lemmas.Grind.{common_steps}
use Rattle.cf_bytes.specs.declared.peer.PeerNo.{PeerNo}
use Rattle.cf_msg.specs.declared.msg.Msg.{Msg}
use Rattle.cf_peer.specs.declared.act.Act.{Act}
use Rattle.cf_peer.specs.declared.act.Act.TheVariants.{Close}
use Rattle.cf_wires.specs.declared.event.Event.TheVariants.{Sent, SendFailed, Closed}
use Rattle.cf_wires.specs.declared.event.Mark.{Mark}
use Rattle.cf_wires.specs.declared.event.Mark.TheVariants as mark
use Rattle.cf_peer.specs.declared.peer.Cause.{Cause}
use Rattle.cf_wires.specs.Log.{Log}
use Rattle.cf_peer.specs.Trail.{Part, Asked, Lost, spelled, asks, with_item, part_of, went_on, is_connected, has_failed, is_failing}
use Rattle.cf_peer.specs.Asking.{counted, fetched_blocks, given_filters}
use Rattle.cf_sync.specs.Fetching.{counted_part}
use Rattle.cf_sync.specs.Planned.{is_untold, before_failure, Alike}
use Rattle.cf_run.specs.States.{closes}

-- what an entry changes of a peer's part
pub asked_connected : (b : Bool) (o : Option Msg) (part : Part) → is_connected (if b then record part { trail = asks o part.trail } else part).trail ≡ is_connected part.trail
asked_connected true None part = refl
asked_connected true (Some m) part = refl
asked_connected false o part = refl

pub asked_failed : (b : Bool) (o : Option Msg) (part : Part) → has_failed (if b then record part { trail = asks o part.trail } else part).trail ≡ has_failed part.trail
asked_failed true None part = refl
asked_failed true (Some m) part = refl
asked_failed false o part = refl

pub asked_brought : (b : Bool) (o : Option Msg) (part : Part) → fetched_blocks (counted (if b then record part { trail = asks o part.trail } else part).trail) ≡ fetched_blocks (counted part.trail)
asked_brought true None part = refl
asked_brought true (Some m) part = refl
asked_brought false o part = refl

pub asked_came : (b : Bool) (o : Option Msg) (part : Part) → given_filters (counted (if b then record part { trail = asks o part.trail } else part).trail) ≡ given_filters (counted part.trail)
asked_came true None part = refl
asked_came true (Some m) part = refl
asked_came false o part = refl

pub asked_alike : (b : Bool) (o : Option Msg) (t u : Part) → Alike t u
    → Alike (if b then record t { trail = asks o t.trail } else t) (if b then record u { trail = asks o u.trail } else u)
asked_alike b o t u (inl same) = inl (ap (λ (x : Part). if b then record x { trail = asks o x.trail } else x) same)
asked_alike b o t u (inr off) = inr (asked_connected b o t ∙ off.0, asked_connected b o u ∙ off.1, asked_failed b o t ∙ off.2, asked_failed b o u ∙ off.3, asked_brought b o t ∙ off.4 ∙ sym (asked_brought b o u), asked_came b o t ∙ off.5 ∙ sym (asked_came b o u))

pub lost_off : (b : Bool) (m : Mark) (part : Part) → is_connected part.trail ≡ false → is_connected (if b then with_item (Lost m) part else part).trail ≡ false
lost_off true m part off = refl
lost_off false m part off = off

pub lost_brought : (b : Bool) (m : Mark) (part : Part) → fetched_blocks (counted (if b then with_item (Lost m) part else part).trail) ≡ fetched_blocks (counted part.trail)
lost_brought true m part = refl
lost_brought false m part = refl

pub lost_came : (b : Bool) (m : Mark) (part : Part) → given_filters (counted (if b then with_item (Lost m) part else part).trail) ≡ given_filters (counted part.trail)
lost_came true m part = refl
lost_came false m part = refl

-- a peer that is lost once more
pub any_failing : (b : Bool) → (b || true) ≡ true
any_failing true = refl
any_failing false = refl

pub failed_still : (b : Bool) (m : Mark) (part : Part) → has_failed part.trail ≡ true → has_failed (if b then with_item (Lost m) part else part).trail ≡ true
failed_still true m part off = ap (λ (x : Bool). is_failing m || x) off ∙ any_failing (is_failing m)
failed_still false m part off = off

pub lost_alike : (b : Bool) (m : Mark) (t u : Part) → Alike t u → Alike (if b then with_item (Lost m) t else t) (if b then with_item (Lost m) u else u)
lost_alike b m t u (inl same) = inl (ap (λ (x : Part). if b then with_item (Lost m) x else x) same)
lost_alike b m t u (inr off) = inr (lost_off b m t off.0, lost_off b m u off.1, failed_still b m t off.2, failed_still b m u off.3, lost_brought b m t ∙ off.4 ∙ sym (lost_brought b m u), lost_came b m t ∙ off.5 ∙ sym (lost_came b m u))

-- an entry that brings nothing
pub sent_brought : (p : PeerNo) (bytes : List ℕ) (log : Log) (q : ℕ) → fetched_blocks (counted_part (Sent p bytes ∷ log) q) ≡ fetched_blocks (counted_part log q)
sent_brought p bytes log q = asked_brought (p.0 == q) (spelled bytes) (part_of log q)

pub closed_brought : (p : PeerNo) (log : Log) (q : ℕ) → fetched_blocks (counted_part (Closed p ∷ log) q) ≡ fetched_blocks (counted_part log q)
closed_brought p log q = lost_brought (p.0 == q) mark.Closed (part_of log q)

pub failing_brought : (p : PeerNo) (log : Log) (q : ℕ) → fetched_blocks (counted_part (SendFailed p ∷ log) q) ≡ fetched_blocks (counted_part log q)
failing_brought p log q = lost_brought (p.0 == q) mark.SendFailed (part_of log q)

-- nor a filter
pub sent_came : (p : PeerNo) (bytes : List ℕ) (log : Log) (q : ℕ) → given_filters (counted_part (Sent p bytes ∷ log) q) ≡ given_filters (counted_part log q)
sent_came p bytes log q = asked_came (p.0 == q) (spelled bytes) (part_of log q)

pub closed_came : (p : PeerNo) (log : Log) (q : ℕ) → given_filters (counted_part (Closed p ∷ log) q) ≡ given_filters (counted_part log q)
closed_came p log q = lost_came (p.0 == q) mark.Closed (part_of log q)

pub failing_came : (p : PeerNo) (log : Log) (q : ℕ) → given_filters (counted_part (SendFailed p ∷ log) q) ≡ given_filters (counted_part log q)
failing_came p log q = lost_came (p.0 == q) mark.SendFailed (part_of log q)

pub sent_connected : (p : PeerNo) (bytes : List ℕ) (q : ℕ) (part : Part) → is_connected (went_on (Sent p bytes) q part).trail ≡ is_connected part.trail
sent_connected p bytes q part = asked_connected (p.0 == q) (spelled bytes) part

-- nobody else's part changes
pub sent_others : (p : PeerNo) (bytes : List ℕ) (q : ℕ) (part : Part) → q ≢ p.0 → went_on (Sent p bytes) q part ≡ part
sent_others p bytes q part ne = grind (arith, common_steps)

pub closed_others : (p : PeerNo) (q : ℕ) (part : Part) → q ≢ p.0 → went_on (Closed p) q part ≡ part
closed_others p q part ne = grind (arith, common_steps)

pub failing_others : (p : PeerNo) (q : ℕ) (part : Part) → q ≢ p.0 → went_on (SendFailed p) q part ≡ part
failing_others p q part ne = grind (arith, common_steps)

pub failing_here : (p : PeerNo) (q : ℕ) (part : Part) → q ≡ p.0 → went_on (SendFailed p) q part ≡ with_item (Lost mark.SendFailed) part
failing_here p q part e = grind (arith, common_steps)

pub closed_here : (p : PeerNo) (q : ℕ) (part : Part) → q ≡ p.0 → went_on (Closed p) q part ≡ with_item (Lost mark.Closed) part
closed_here p q part e = grind (arith, common_steps)

pub sent_here : (p : PeerNo) (bytes : List ℕ) (m : Msg) (q : ℕ) (part : Part) → q ≡ p.0 → spelled bytes ≡ Some m → went_on (Sent p bytes) q part ≡ with_item (Asked m) part
sent_here p bytes m q part e is = ap (λ (b : Bool). if b then record part { trail = asks (spelled bytes) part.trail } else part) (same_number p.0 q e) ∙ ap (λ (o : Option Msg). record part { trail = asks o part.trail }) is where
  same_number : (n k : ℕ) → k ≡ n → (n == k) ≡ true
  same_number n k e = grind (arith, common_steps)

-- ---- which failed sends aren't told

pub untold_failing_here : (p : PeerNo) (log : Log) (q : ℕ) → q ≡ p.0 → is_untold (SendFailed p ∷ log) q ≡ true
untold_failing_here p log q e = grind (arith, common_steps)

pub untold_failing_others : (p : PeerNo) (log : Log) (q : ℕ) → q ≢ p.0 → is_untold (SendFailed p ∷ log) q ≡ is_untold log q
untold_failing_others p log q ne = grind (arith, common_steps)

pub untold_closed_here : (p : PeerNo) (log : Log) (q : ℕ) → q ≡ p.0 → is_untold (Closed p ∷ log) q ≡ false
untold_closed_here p log q e = grind (arith, common_steps)

pub untold_closed_others : (p : PeerNo) (log : Log) (q : ℕ) → q ≢ p.0 → is_untold (Closed p ∷ log) q ≡ is_untold log q
untold_closed_others p log q ne = grind (arith, common_steps)

pub before_failing_here : (p : PeerNo) (log : Log) (q : ℕ) → q ≡ p.0 → before_failure (SendFailed p ∷ log) q ≡ log
before_failing_here p log q e = grind (arith, common_steps)

pub before_failing_others : (p : PeerNo) (log : Log) (q : ℕ) → q ≢ p.0 → before_failure (SendFailed p ∷ log) q ≡ before_failure log q
before_failing_others p log q ne = grind (arith, common_steps)

-- what an act closes, and whom not
pub closes_here : (p : PeerNo) (cause : Cause) (acts : List Act) (q : ℕ) → q ≡ p.0 → list_any (closes q) (Close p cause ∷ acts) ≡ true
closes_here p cause acts q e = grind (arith, common_steps)

pub closes_others : (p : PeerNo) (cause : Cause) (acts : List Act) (q : ℕ) → q ≢ p.0 → list_any (closes q) (Close p cause ∷ acts) ≡ list_any (closes q) acts
closes_others p cause acts q ne = grind (arith, common_steps)
