-- What is open right after a tick, as a log goes on.
use Rattle.std.proofs.Common.{◌≡◌, ◌⊎◌, inl, inr, ℕ, ◌+◌, List, [], ◌∷◌, Option, Some, Bool, true, false, not, ◌&&◌, ◌||◌, refl, sym, ◌∙◌, ap, subst, arith, if◌then◌else◌}
use Rattle.std.specs.Prelude.{◌==◌}
use Rattle.std.proofs.lemmas.Bool.{cases_eq, false≢true}
use Rattle.cf_bytes.specs.declared.peer.PeerNo.{PeerNo}
use Rattle.cf_headers.specs.Chain.{Chain}
use Rattle.cf_msg.specs.declared.msg.Inventory.{Inventory}
use Rattle.cf_msg.specs.declared.msg.Msg.{Msg}
use Rattle.cf_msg.specs.declared.msg.Msg.TheVariants.{Version, Verack, Ping, Pong, GetHeaders, Headers, GetData, Inv, Block, GetCfilters, Cfilter, GetCfheaders, Cfheaders, GetCfcheckpt, Cfcheckpt, Other}
use Rattle.cf_wires.specs.declared.event.Delivery.{Delivery}
use Rattle.cf_wires.specs.declared.event.Delivery.TheVariants.{Got, Gone, Tick, Ended}
use Rattle.cf_wires.specs.declared.event.Event.TheVariants.{Dialled, NotDialled, Sent, SendFailed, Closed, Took}
use Rattle.cf_wires.specs.declared.event.Mark.{Mark}
use Rattle.cf_wires.specs.declared.event.Mark.TheVariants as mark
use Rattle.cf_wires.specs.Log.{Log, Told}
use Rattle.cf_peer.specs.declared.act.Act.{Act}
use Rattle.cf_peer.specs.declared.act.Act.TheVariants.{Send, Close}
use Rattle.cf_peer.specs.declared.mode.Mode.{Mode}
use Rattle.cf_peer.specs.declared.mode.Mode.TheVariants.{Once, Following}
use Rattle.cf_peer.specs.Acts.{bytes_of}
use Rattle.cf_peer.specs.Asking.{MayAskIn, block_asked, claims_asked, filters_asked, is_idle, is_open, pings, request}
use Rattle.cf_peer.specs.Trail.{Trail, Part, Asked, Lost, called_part, is_connected, part_of, ready, spelled, trail, with_item}
use Rattle.cf_sync.specs.Fetching.{Rule, is_after_tick}
use Rattle.cf_place.specs.Places.{Allowed, MayAct, after, entry_of}
use Rattle.cf_client.specs.Stands.{ArePinged}
use Rattle.cf_client.proofs.Pinging.{after_tick}
use Rattle.cf_client.proofs.Spelled.{spelled_bytes}
use Rattle.cf_run.specs.declared.progress.Progress.{Progress}
use Rattle.cf_run.specs.Run.{IsTicked}
use Rattle.cf_run.specs.States.{Doing}
use Rattle.cf_run.proofs.Performs.{connected_same}
use Rattle.cf_run.proofs.Entries.{sent_here, sent_others}

-- something is open by this trail, or all numbers of pings were used
abbrev StillOpen : Trail → Type 0
StillOpen t = (is_open t ≡ true) ⊎ (pings t ≡ 18446744073709551615)

-- ---- a message is sent

open_still : (t u : Trail) → is_open u ≡ is_open t → pings u ≡ pings t → StillOpen t → StillOpen u
open_still t u same none (inl open_now) = inl (same ∙ open_now)
open_still t u same none (inr all) = inr (none ∙ all)

none_more : (n : ℕ) → 0 + n ≡ n
none_more n = omega arith

open_so : (on ready busy : Bool) → on ≡ true → busy ≡ true → (on && (not ready || busy)) ≡ true
open_so true true busy on is = is
open_so true false busy on is = refl
open_so false ready busy on is = absurd (false≢true on)

asked_open : (t : Trail) (m : Msg) → MayAskIn Following t m → StillOpen t → StillOpen (Asked m ∷ t)
asked_open t (Version version services time to from nonce agent height relay) may h =
    open_still t (Asked (Version version services time to from nonce agent height relay) ∷ t) refl (none_more (pings t)) h
asked_open t Verack may h = open_still t (Asked Verack ∷ t) refl (none_more (pings t)) h
asked_open t (Pong n) may h = open_still t (Asked (Pong n) ∷ t) refl (none_more (pings t)) h
asked_open t (Ping n) may h = inl (open_so (is_connected t) (ready t) true may.0.on refl)
asked_open t (GetHeaders version locator stop) may h = inl (open_so (is_connected t) (ready t) true may.0.on refl)
asked_open t (GetCfheaders filter start stop) may h =
    inl (open_so (is_connected t) (ready t) (not (is_idle (request (Asked (GetCfheaders filter start stop) ∷ t)))) may.0.on
    (ap (λ (part : Option Chain). not (is_idle (claims_asked start stop.0 part))) may.1.0.tip))
asked_open t (GetCfilters filter start stop) may h =
    inl (open_so (is_connected t) (ready t) (not (is_idle (request (Asked (GetCfilters filter start stop) ∷ t)))) may.0.on
    (ap (λ (part : Option Chain). not (is_idle (filters_asked start part))) may.1.0.tip))
asked_open t (GetData entries) may h =
    inl (open_so (is_connected t) (ready t) (not (is_idle (request (Asked (GetData entries) ∷ t)))) may.0.on
    (ap (λ (es : List Inventory). not (is_idle (block_asked es (request t)))) may.1.1))
asked_open t (Headers hs) may h = absurd may
asked_open t (Inv entries) may h = absurd may
asked_open t (Block block) may h = absurd may
asked_open t (Cfilter filter block bytes) may h = absurd may
asked_open t (Cfheaders filter stop previous hashes) may h = absurd may
asked_open t (GetCfcheckpt filter stop) may h = absurd may
asked_open t (Cfcheckpt filter stop headers) may h = absurd may
asked_open t (Other command payload) may h = absurd may

ticked_sent : (mode : Mode) (p : PeerNo) (m : Msg) (log : Log) → spelled (bytes_of m) ≡ Some m → MayAskIn mode (trail log p.0) m → IsTicked mode log
    → IsTicked mode (Sent p (bytes_of m) ∷ log)
ticked_sent Once p m log spells may was = tt
ticked_sent Following p m log spells may was = λ is q on. elim (cases_eq q p.0) [
  | inl e ↦
      let here = sent_here p (bytes_of m) m q (part_of log q) e spells in
      let on_before : is_connected (trail log q) ≡ true = sym (ap (λ (x : Part). is_connected x.trail) here) ∙ on in
      subst (λ (x : Part). StillOpen x.trail) (sym here)
      (asked_open (trail log q) m (subst (λ (k : ℕ). MayAskIn Following (trail log k) m) (sym e) may) (was is q on_before))
  | inr ne ↦
      let same = sent_others p (bytes_of m) q (part_of log q) ne in
      subst (λ (x : Part). StillOpen x.trail) (sym same) (was is q (sym (ap (λ (x : Part). is_connected x.trail) same) ∙ on))
]

-- ---- a peer is lost, or dialled

lost_open : (b : Bool) (m : Mark) (part : Part) → (is_connected part.trail ≡ true → StillOpen part.trail)
    → is_connected (if b then with_item (Lost m) part else part).trail ≡ true → StillOpen (if b then with_item (Lost m) part else part).trail
lost_open true m part was on = absurd (false≢true on)
lost_open false m part was on = was on

ticked_closed : (mode : Mode) (p : PeerNo) (log : Log) → IsTicked mode log → IsTicked mode (Closed p ∷ log)
ticked_closed Once p log was = tt
ticked_closed Following p log was = λ is q on. lost_open (p.0 == q) mark.Closed (part_of log q) (was is q) on

ticked_failed : (mode : Mode) (p : PeerNo) (log : Log) → IsTicked mode log → IsTicked mode (SendFailed p ∷ log)
ticked_failed Once p log was = tt
ticked_failed Following p log was = λ is q on. lost_open (p.0 == q) mark.SendFailed (part_of log q) (was is q) on

missed : (mode : Mode) (p : PeerNo) (name : List ℕ) (log : Log) → IsTicked mode log → IsTicked mode (NotDialled p name ∷ log)
missed Once p name log was = tt
missed Following p name log was = λ is q on. lost_open (p.0 == q) mark.NotDialled (part_of log q) (was is q) on

called_open : (b : Bool) (part : Part) → (is_connected part.trail ≡ true → StillOpen part.trail)
    → is_connected (if b then called_part part else part).trail ≡ true → StillOpen (if b then called_part part else part).trail
called_open true part was on = inl refl
called_open false part was on = was on

ticked_dialled : (mode : Mode) (p : PeerNo) (name : List ℕ) (log : Log) → IsTicked mode log → IsTicked mode (Dialled p name ∷ log)
ticked_dialled Once p name log was = tt
ticked_dialled Following p name log was = λ is q on. called_open (p.0 == q) (part_of log q) (was is q) on

-- ---- acts are done

ticked_act : (rule : Rule) (a : Act) (log : Log) → MayAct rule a log → IsTicked rule.mode log → IsTicked rule.mode (entry_of a ∷ log)
ticked_act rule (Send p m) log may was = ticked_sent rule.mode p m log (spelled_bytes m may.1) may.2.of_its_part was
ticked_act rule (Close p cause) log may was = ticked_closed rule.mode p log was

ticked_after : (rule : Rule) (acts : List Act) (log : Log) → Allowed rule acts log → IsTicked rule.mode log → IsTicked rule.mode (after acts log)
ticked_after rule [] log allowed was = was
ticked_after rule (a ∷ acts) log allowed was = ticked_after rule acts (entry_of a ∷ log) allowed.1 (ticked_act rule a log allowed.0 was)

-- by the same rule
by_rule : {rule now : Rule} (log : Log) → now ≡ rule → IsTicked rule.mode log → IsTicked now.mode log
by_rule log same was = subst (λ (r : Rule). IsTicked r.mode log) (sym same) was

-- those of a client that is told of a failed send
pub ticked_then : {rule now : Rule} (acts : List Act) (p : PeerNo) (first planned : Log) → now ≡ rule → Allowed now acts (SendFailed p ∷ planned)
    → (IsTicked rule.mode first → IsTicked rule.mode planned) → IsTicked now.mode first → IsTicked now.mode (after acts (SendFailed p ∷ planned))
ticked_then {rule = rule} {now = now} acts p first planned same allowed was begun =
    ticked_after now acts (SendFailed p ∷ planned) allowed
    (ticked_failed now.mode p planned (by_rule planned same (was (by_rule first (sym same) begun))))

-- those of one that is told of a peer
pub ticked_greeted : {rule now : Rule} (acts : List Act) (p : PeerNo) (name : List ℕ) (log : Log) → now ≡ rule → Allowed now acts (Dialled p name ∷ log)
    → IsTicked rule.mode log → IsTicked now.mode (after acts (Dialled p name ∷ log))
ticked_greeted {rule = rule} {now = now} acts p name log same allowed was =
    ticked_after now acts (Dialled p name ∷ log) allowed (ticked_dialled now.mode p name log (by_rule log same was))

-- a peer could not be dialled
pub ticked_missed : {rule now : Rule} (p : PeerNo) (name : List ℕ) (log : Log) → now ≡ rule → IsTicked rule.mode log
    → IsTicked now.mode (NotDialled p name ∷ log)
ticked_missed {rule = rule} {now = now} p name log same was = missed now.mode p name log (by_rule log same was)

-- those of one that takes a delivery
unticked : {P : Type 0} (acts : List Act) (log : Log) → is_after_tick log ≡ false → is_after_tick (after acts log) ≡ true → P
unticked acts log none is = absurd (false≢true (sym (after_tick acts log ∙ none) ∙ is))

pinged_so : (mode : Mode) (d : Delivery) (acts : List Act) (log : Log) → ArePinged mode d (after acts (Took d ∷ log))
    → IsTicked mode (after acts (Took d ∷ log))
pinged_so Once d acts log pinged = tt
pinged_so Following (Got p piece) acts log pinged = λ is. unticked acts (Took (Got p piece) ∷ log) refl is
pinged_so Following (Gone p) acts log pinged = λ is. unticked acts (Took (Gone p) ∷ log) refl is
pinged_so Following (Tick seconds) acts log pinged = λ is. pinged
pinged_so Following Ended acts log pinged = λ is. unticked acts (Took Ended ∷ log) refl is

pub ticked_taken : {rule now : Rule} (d : Delivery) (acts done : List Act) (log : Log) → now ≡ rule → done ≡ acts
    → ArePinged rule.mode d (after acts (Took d ∷ log)) → IsTicked now.mode (after done (Took d ∷ log))
ticked_taken {rule = rule} {now = now} d acts done log same is pinged =
    by_rule (after done (Took d ∷ log)) same
    (subst (λ (xs : List Act). IsTicked rule.mode (after xs (Took d ∷ log))) (sym is) (pinged_so rule.mode d acts log pinged))

-- the end isn't a tick, nor is anything before the first delivery
pub ticked_ended : (mode : Mode) (log : Log) → IsTicked mode (Took Ended ∷ log)
ticked_ended Once log = tt
ticked_ended Following log = λ is. absurd (false≢true is)

pub ticked_first : (mode : Mode) → IsTicked mode []
ticked_first Once = tt
ticked_first Following = λ is. absurd (false≢true is)

-- ---- from the plan to what was done

same_ticked : (mode : Mode) (planned actual : Log) → is_after_tick planned ≡ is_after_tick actual
    → ((q : ℕ) → is_connected (trail actual q) ≡ true → part_of planned q ≡ part_of actual q) → IsTicked mode planned → IsTicked mode actual
same_ticked Once planned actual last parts was = tt
same_ticked Following planned actual last parts was = λ is q on.
    let same = parts q on in
    subst (λ (x : Part). StillOpen x.trail) same (was (last ∙ is) q (ap (λ (x : Part). is_connected x.trail) same ∙ on))

pub ticked_told : {rule : Rule} (progress : Progress) (called : List (List ℕ)) (planned : Log) (t : Told) (doing : Doing rule [] progress called planned t)
    → IsTicked rule.mode planned → IsTicked rule.mode doing.actual
ticked_told {rule = rule} progress called planned t doing was =
    same_ticked rule.mode planned doing.actual doing.plan.ticked (connected_same [] progress called planned t doing) was
