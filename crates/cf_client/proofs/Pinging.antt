-- A ping: what it does to the places and to the log, and as a step of the client.
use Rattle.std.proofs.Common.{◌≡◌, ◌≢◌, inl, inr, ℕ, ◌+◌, ◌<◌, List, [], ◌∷◌, ◌++◌, length, get_or, set, true, refl, sym, ◌∙◌, ap, subst, arith}
use Rattle.std.proofs.lemmas.Bool.{both_ways}
use Rattle.cf_msg.specs.declared.msg.Msg.TheVariants.{Ping}
use Rattle.cf_peer.specs.declared.act.Act.{Act}
use Rattle.cf_peer.specs.declared.act.Act.TheVariants.{Send, Close}
use Rattle.cf_peer.specs.declared.mode.Mode.TheVariants.{Following}
use Rattle.cf_peer.specs.declared.peer.Peer.{Peer}
use Rattle.cf_peer.specs.Acts.{IsSendable}
use Rattle.cf_peer.specs.Asking.{MayPing}
use Rattle.cf_peer.specs.Peer.{is_idle_peer, asked_for_ping}
use Rattle.cf_peer.specs.Trail.{part_of, trail}
use Rattle.cf_peer.proofs.Peers.{asked_ping_holds, ping_may}
use Rattle.cf_sync.specs.Fetching.{Rule, blocks_open, filters_open, is_after_tick}
use Rattle.cf_wires.specs.Log.{Log}
use Rattle.cf_tracker.specs.Seen.{Seen}
use Rattle.cf_hear.specs.Tracks.{Tracks}
use Rattle.cf_hear.proofs.Opening.{opens_asked}
use Rattle.cf_hear.proofs.Tracking.{opened_self}
use Rattle.cf_place.specs.declared.place.Place.{Place}
use Rattle.cf_place.specs.declared.place.Place.TheVariants.{Here}
use Rattle.cf_place.specs.Places.{Goes, after as done, is_idle, nobody}
use Rattle.cf_client.specs.Order.{PingsOne}
use Rattle.cf_client.specs.Steps.{Desk, HasPingedOut, IsInOrder, IsNextPing, IsPinged, Moves, Stands, Ticked}
use Rattle.cf_client.proofs.Acting.{aim_kept, idle_at, sent_tracks}
use Rattle.cf_client.proofs.Best.{rule_in}
use Rattle.cf_client.proofs.Settled.{set_other}
use Rattle.cf_client.proofs.Standing.{all_replied, asked_keeps, keeps_at, send_goes, set_is}
use Rattle.cf_client.proofs.Steps.{acted, sent_moves, stay_moves}

-- the client's own acts leave what the last delivery was
pub after_tick : (acts : List Act) (log : Log) → is_after_tick (done acts log) ≡ is_after_tick log
after_tick [] log = refl
after_tick (Send p m ∷ acts) log = after_tick acts _
after_tick (Close p cause ∷ acts) log = after_tick acts _

-- a ping is sent
ping_goes : (places : List Place) (acts : List Act) (log : Log) (s : Seen) (i : ℕ) (peer : Peer) (number : ℕ)
    → i < length places → Goes (rule_in Following s) places acts log → get_or places i nobody ≡ Here peer → is_idle_peer peer ≡ true
    → number ≡ peer.pings + 1 → IsSendable (Ping number) → is_after_tick log ≡ true
    → Goes (rule_in Following s) (set places i (Here (asked_for_ping number peer))) (acts ++ Send (record { 0 = i }) (Ping number) ∷ []) log
ping_goes places acts log s i peer number lt goes here idle next sendable ticked =
    let l = done acts log in
    let keeps = keeps_at places acts log i peer goes here in
    send_goes places acts log i (asked_for_ping number peer) (Ping number) lt goes sendable
    (record {
      of_its_part = subst (MayPing Following (trail l i)) (sym next)
          (ping_may peer (trail l i) keeps.holds (all_replied peer (part_of l i) keeps) idle);
      wanted = tt;
      alone = after_tick acts log ∙ ticked;
    })
    tt
    (asked_keeps (asked_for_ping number peer) peer (part_of l i) (Ping number) keeps
    (asked_ping_holds peer (trail l i) number keeps.holds idle next) refl refl refl)

ping_tracks : {rule : Rule} (places : List Place) (acts : List Act) (log : Log) (s : Seen) (i : ℕ) (peer : Peer) (number : ℕ)
    → Goes rule places acts log → get_or places i nobody ≡ Here peer → is_idle_peer peer ≡ true → IsSendable (Ping number)
    → Tracks s (done acts log) → Tracks s (done (acts ++ Send (record { 0 = i }) (Ping number) ∷ []) log)
ping_tracks places acts log s i peer number goes here idle sendable tracks =
    let t = trail (done acts log) i in
    let none = idle_at places acts log i peer goes here idle in
    sent_tracks s s acts log (record { 0 = i }) (Ping number) sendable (opened_self s i)
    (opens_asked s.opens i (Ping number) t (sym (ap filters_open none)) (sym (ap blocks_open none)) (tracks.opened i))
    (aim_kept s s (done acts log) (record { 0 = i }) (Ping number) sendable (λ filter start stop e. cc) refl tracks) tracks

-- a ping as a step, right after a tick
ping_moves : (d : Desk) (i : ℕ) (peer : Peer) (number : ℕ) → i < length d.places → IsInOrder d → get_or d.places i nobody ≡ Here peer
    → is_idle_peer peer ≡ true → number ≡ peer.pings + 1 → IsSendable (Ping number)
    → Moves Following Ticked d (acted d i (Here (asked_for_ping number peer)) d.seen (Send (record { 0 = i }) (Ping number)))
ping_moves d i peer number lt order here idle next sendable =
    sent_moves Following Ticked (λ log after on. on.0) d d.seen i peer (asked_for_ping number peer) (Ping number) lt order here
    (omega (arith, lt, order.few), sendable) refl tt (opened_self d.seen i)
    (λ log on stood. ping_goes d.places d.acts log d.seen i peer number lt stood.goes here idle next sendable on.1)
    (λ log stood. ping_tracks d.places d.acts log d.seen i peer number stood.goes here idle sendable stood.tracks)

-- to these places and acts
moved : (d : Desk) (places : List Place) (acts : List Act) (now : List Place) (more : List Act) → places ≡ now → acts ≡ more
    → Moves Following Ticked d (record { places = now; seen = d.seen; acts = more })
    → Moves Following Ticked d (record { places = places; seen = d.seen; acts = acts })
moved d places acts now more same added moves =
    subst (λ (ps : List Place). Moves Following Ticked d (record { places = ps; seen = d.seen; acts = acts })) (sym same)
    (subst (λ (xs : List Act). Moves Following Ticked d (record { places = now; seen = d.seen; acts = xs })) (sym added) moves)

-- nothing is sent
pub ticked_self : (d : Desk) → IsInOrder d → Moves Following Ticked d d
ticked_self d order = stay_moves order (λ log after on stood. subst (Stands Following d) (sym on.0) stood)

-- the peer at a place was sent a ping, or nothing was to be sent
next_here : (number : ℕ) (place : Place) (peer : Peer) → place ≡ Here peer → IsNextPing number place → number ≡ peer.pings + 1
next_here number place peer here next = subst (IsNextPing number) here next

pub pinged_moves : (d : Desk) (i : ℕ) (places : List Place) (acts : List Act) → i < length d.places → IsInOrder d
    → IsPinged i d.places places d.acts acts → Moves Following Ticked d (record { places = places; seen = d.seen; acts = acts })
pinged_moves d i places acts lt order (inl (number, (next, sent))) =
    moved d places acts (set d.places i (Here (asked_for_ping number sent.peer))) (d.acts ++ Send (record { 0 = i }) (Ping number) ∷ [])
    sent.kept sent.added
    (ping_moves d i sent.peer number lt order sent.here sent.idle
    (next_here number (get_or d.places i nobody) sent.peer sent.here next) sent.sendable)
pinged_moves d i places acts lt order (inr (same, none, out)) = moved d places acts d.places d.acts same none (ticked_self d order)

pub pinged_one : (i : ℕ) (places now : List Place) (acts more : List Act) → IsPinged i places now acts more → PingsOne i acts more
pinged_one i places now acts more (inl (number, (next, sent))) = inr (number, sent.added)
pinged_one i places now acts more (inr (same, none, out)) = inl none

pub pinged_others : (i : ℕ) (places now : List Place) (acts more : List Act) → IsPinged i places now acts more → (p : ℕ) → p ≢ i
    → get_or now p nobody ≡ get_or places p nobody
pinged_others i places now acts more (inl (number, (next, sent))) p other =
    ap (λ (ps : List Place). get_or ps p nobody) sent.kept ∙ set_other places i p (Here (asked_for_ping number sent.peer)) other
pinged_others i places now acts more (inr (same, none, out)) p other = ap (λ (ps : List Place). get_or ps p nobody) same

pub pinged_here : (i : ℕ) (places now : List Place) (acts more : List Act) → i < length places → IsPinged i places now acts more
    → is_idle (get_or now i nobody) ≡ true → HasPingedOut (get_or now i nobody)
pinged_here i places now acts more lt (inl (number, (next, sent))) idle =
    let this = ap (λ (ps : List Place). get_or ps i nobody) sent.kept ∙ set_is places i (Here (asked_for_ping number sent.peer)) lt in
    absurd (both_ways (is_idle (get_or now i nobody)) (ap is_idle this) idle)
pinged_here i places now acts more lt (inr (same, none, out)) idle =
    subst (λ (ps : List Place). is_idle (get_or ps i nobody) ≡ true → HasPingedOut (get_or ps i nobody)) (sym same) out idle

pub pinged_same : (i : ℕ) (places now : List Place) (acts more : List Act) → i < length places → IsPinged i places now acts more
    → is_idle (get_or now i nobody) ≡ true → get_or now i nobody ≡ get_or places i nobody
pinged_same i places now acts more lt (inl (number, (next, sent))) idle =
    let this = ap (λ (ps : List Place). get_or ps i nobody) sent.kept ∙ set_is places i (Here (asked_for_ping number sent.peer)) lt in
    absurd (both_ways (is_idle (get_or now i nobody)) (ap is_idle this) idle)
pinged_same i places now acts more lt (inr (same, none, out)) idle = ap (λ (ps : List Place). get_or ps i nobody) same
