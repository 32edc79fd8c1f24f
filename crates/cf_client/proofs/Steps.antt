-- How steps of the client are put together, and what each single act is as a step.
use Rattle.std.proofs.Common.{◌≡◌, ◌≢◌, inl, inr, ℕ, ◌<◌, ◌≤◌, Bool, List, [], ◌∷◌, ◌++◌, length, get_or, set, Some, None, true, false, refl, sym, ◌∙◌, ap, subst, arith, append_assoc}
use Rattle.std.proofs.lemmas.Bool.{and_parts, both_ways, cases_eq}
use Rattle.std.proofs.lemmas.List.{append-nil, length-set}
use Rattle.std.proofs.lemmas.List.Elements.{All-push}
use Rattle.std.specs.Prelude.{◌&&◌, is_some, not}
use Rattle.std.specs.List.{All}
use Rattle.cf_bytes.specs.declared.peer.PeerNo.{PeerNo}
use Rattle.cf_dispute.specs.Claims.{no_claims}
use Rattle.cf_headers.specs.Chain.{Hash}
use Rattle.cf_headers.specs.Heights.{common_of}
use Rattle.cf_headers.specs.Store.{IsBest}
use Rattle.cf_headers.proofs.Commons.{common_low}
use Rattle.cf_msg.specs.declared.msg.Msg.{Msg}
use Rattle.cf_msg.specs.declared.msg.Msg.TheVariants.{GetCfheaders, GetCfilters}
use Rattle.cf_peer.specs.declared.act.Act.{Act}
use Rattle.cf_peer.specs.declared.act.Act.TheVariants.{Send, Close}
use Rattle.cf_peer.specs.declared.mode.Mode.{Mode}
use Rattle.cf_peer.specs.declared.peer.Cause.TheVariants.{Overdue}
use Rattle.cf_peer.specs.declared.peer.Peer.{Peer}
use Rattle.cf_wires.specs.declared.event.Delivery.{Delivery}
use Rattle.cf_wires.specs.declared.event.Delivery.TheVariants.{Tick}
use Rattle.cf_wires.specs.declared.event.Event.TheVariants.{Took}
use Rattle.cf_peer.specs.Acts.{IsDoable, IsSendable}
use Rattle.cf_wires.specs.Log.{Log}
use Rattle.cf_peer.specs.Peer.{IsRight, calm, heard_out, wants, is_idle_peer, asked_for_headers, asked_for_claims, asked_for_filters, asked_for_block}
use Rattle.cf_sync.specs.Fetching.{is_after_tick}
use Rattle.cf_seek.specs.declared.spans.Wish.{Wish}
use Rattle.cf_seek.specs.declared.spans.Wish.TheVariants.{Nothing, Claims, Filters, Block, Test}
use Rattle.cf_seek.specs.Aims.{IsAimed}
use Rattle.cf_seek.specs.Opens.{Opens}
use Rattle.cf_seek.specs.Opening.{IsSameElse}
use Rattle.cf_seek.specs.Spans.{IsAskedFor, IsWish, GoesFar}
use Rattle.cf_tracker.specs.declared.account.Written.{Written}
use Rattle.cf_tracker.specs.Seen.{Seen, IsSameSeen}
use Rattle.cf_hear.specs.Tracks.{HasOpened, Tracks, IsPut}
use Rattle.cf_hear.specs.Exposing.{IsUnexposed}
use Rattle.cf_hear.proofs.Exposing.{unexposed_on, unexposed_put}
use Rattle.cf_hear.proofs.Hearing.{right_same}
use Rattle.cf_hear.proofs.Opening.{else_of}
use Rattle.cf_hear.proofs.Tracking.{opened_self}
use Rattle.cf_place.specs.declared.place.Place.{Place}
use Rattle.cf_place.specs.declared.place.Place.TheVariants.{Here, Lost}
use Rattle.cf_place.specs.declared.place.Loss.{Loss}
use Rattle.cf_place.specs.declared.place.Loss.TheVariants.{Closed as ClosedFor}
use Rattle.cf_place.specs.Places.{Goes, PlacesStand, after as done, nobody, is_calm, is_here, is_idle, is_settled, IsQuestion}
use Rattle.cf_client.specs.Settled.{AreEntered, AreRight, AreSettled, IsAskedThrough, IsRightAt, chain_at}
use Rattle.cf_client.specs.Steps.{Desk, Stands, IsInOrder, IsSent, IsSentAsWished, Way, Same, Ticked, Taking, Extends, Moves, Asks}
use Rattle.cf_client.proofs.Ordering.{is_question, above_asks, block_asked}
use Rattle.cf_client.proofs.Standing.{any_default, set_is, late_goes, goes_start}
use Rattle.cf_client.proofs.Naming.{blameless_seen}
use Rattle.cf_client.proofs.Settled.{asked_busy, set_each, set_other, settled_off, heard_by, through_best, through_wish}
use Rattle.cf_client.proofs.Rights.{right_of, right_set, claims_right, filters_right}
use Rattle.cf_client.proofs.Best.{Furthest, Tries, rule_in}
use Rattle.cf_client.proofs.Acting.{aims_stay, range_in, closed_tracks, headers_goes, claims_goes, filters_goes, block_goes, headers_tracks, claims_tracks, filters_tracks, block_tracks, test_goes, test_tracks, seen_same}

-- ---- steps, put together

pub extends_self : (acts : List Act) → Extends acts acts
extends_self acts = ([], sym (append-nil acts))

extends_then : (a b c : List Act) → Extends a b → Extends b c → Extends a c
extends_then a b c one two = (one.0 ++ two.0, two.1 ∙ ap (λ (xs : List Act). xs ++ two.0) one.1 ∙ append_assoc a one.0 two.0)

-- where there was none yet
pub extends_none : (before now : List Act) → before ≡ [] → Extends before now
extends_none before now none = (now, sym (ap (λ (xs : List Act). xs ++ now) none))

pub extends_one : (acts : List Act) (a : Act) → Extends acts (acts ++ a ∷ [])
extends_one acts a = (a ∷ [], refl)

-- one step after another, which stands for the same log
pub moves_on : {mode : Mode} {way more : Way} {a b c : Desk} → Moves mode way a b → Moves mode more b c
    → ((log next : Log) → way log next → more next next) → Moves mode way a c
moves_on one two still = record {
  stands = λ log next on stood. two.stands next next (still log next on) (one.stands log next on stood);
  order = two.order;
  watch = two.watch ∙ one.watch;
  more = extends_then _ _ _ one.more two.more;
  doable = λ all. two.doable (one.doable all);
  calm = λ calm. two.calm (one.calm calm);
}

pub moves_then : {mode : Mode} {way : Way} {a b c : Desk} → Moves mode way a b → Moves mode Same b c → Moves mode way a c
moves_then one two = moves_on one two (λ log next on. refl)

-- right after a tick
pub moves_ticked : {mode : Mode} {a b c : Desk} → Moves mode Ticked a b → Moves mode Ticked b c → Moves mode Ticked a c
moves_ticked one two = moves_on one two (λ log next on. (refl, ap is_after_tick on.0 ∙ on.1))

pub moves_tick : {mode : Mode} {a b c : Desk} (seconds : ℕ) → Moves mode (Taking (Tick seconds)) a b → Moves mode Ticked b c → Moves mode (Taking (Tick seconds)) a c
moves_tick seconds one two = moves_on one two (λ log next on. (refl, ap is_after_tick on))

-- a desk with no acts yet stands for a log if its places do, and what was seen is what the log says
pub stands_start : {mode : Mode} (places : List Place) (seen : Seen) (acts : List Act) (log : Log) → acts ≡ [] → PlacesStand places log → Tracks seen log → IsUnexposed seen
    → Stands mode (record { places = places; seen = seen; acts = acts }) log
stands_start {mode = mode} places seen acts log none stand tracks unexposed = subst (λ (xs : List Act). Stands mode (record { places = places; seen = seen; acts = xs }) log) (sym none) (record {
  goes = goes_start places [] log refl stand;
  tracks = tracks;
  unexposed = unexposed;
})

pub start_places : {mode : Mode} (d : Desk) (log : Log) → d.acts ≡ [] → Stands mode d log → PlacesStand d.places log
start_places d log none stood = subst (λ (xs : List Act). PlacesStand d.places (done xs log)) none stood.goes.stand

pub start_tracks : {mode : Mode} (d : Desk) (log : Log) → d.acts ≡ [] → Stands mode d log → Tracks d.seen log
start_tracks d log none stood = subst (λ (xs : List Act). Tracks d.seen (done xs log)) none stood.tracks

-- between two calls the desk is in order
pub in_order : {mode : Mode} (places : List Place) (seen : Seen) (acts : List Act) → length places ≤ 9 → AreSettled mode places seen → ∥ AreRight places seen.claims ∥₁ → IsInOrder (record { places = places; seen = seen; acts = acts })
in_order places seen acts few settled right = record { few = few; entered = settled.entered; right = right_of places seen.claims right }

-- ---- one act, by which one place changes

pub entered_set : (places : List Place) (before after : Seen) (i : ℕ) (s : Place) → i < length places → ((q : ℕ) → q ≢ i → after.chains q ≡ before.chains q) → is_here s ≡ is_some (after.chains i)
    → AreEntered places before → AreEntered (set places i s) after
entered_set places before after i s lt others here entered = λ q. elim (cases_eq q i) [
  | inl same ↦ subst (λ (k : ℕ). is_here (get_or (set places i s) k nobody) ≡ is_some (after.chains k)) (sym same) (ap is_here (set_is places i s lt) ∙ here)
  | inr other ↦ ap is_here (set_other places i q s other) ∙ entered q ∙ ap is_some (sym (others q other))
]

-- the desk once a place was set and an act added
abbrev pub acted : Desk → ℕ → Place → Seen → Act → Desk
acted d i s seen a = record { places = set d.places i s; seen = seen; acts = d.acts ++ a ∷ [] }

-- nothing changes, as the log goes on
pub stay_moves : {mode : Mode} {way : Way} {d : Desk} → IsInOrder d → ((log next : Log) → way log next → Stands mode d log → Stands mode d next) → Moves mode way d d
stay_moves {d = d} order stands = record { stands = stands; order = order; watch = refl; more = extends_self d.acts; doable = λ all. all; calm = λ calm. calm }

-- what is written doesn't count
tracks_written : (s : Seen) (written : List Written) (log : Log) → Tracks s log → Tracks (record s { written = written }) log
tracks_written s written log t =
    record { kept = t.kept; claimed = t.claimed; fetched = t.fetched; given = t.given; opened = t.opened; trials = t.trials }

pub moves_written : {mode : Mode} {way : Way} {before d : Desk} (after : Seen) → Moves mode way before d
    → IsSameSeen (record d.seen { written = after.written }) after → Moves mode way before (record d { seen = after })
moves_written {mode} {way} {before} {d} after m same =
    subst (λ (s : Seen). Moves mode way before (record d { seen = s }))
    (sym (seen_same (record d.seen { written = after.written }) after same)) (record {
      stands = λ log next is stood.
          let s = m.stands log next is stood in
          record { goes = s.goes; tracks = tracks_written d.seen after.written (done d.acts next) s.tracks; unexposed = s.unexposed };
      order = record { few = m.order.few; entered = m.order.entered; right = m.order.right };
      watch = m.watch;
      more = m.more;
      doable = m.doable;
      calm = m.calm;
    })

-- what was seen changes of one peer alone, and agrees with what is kept of it
pub record IsChanged (before after : Seen) (i : ℕ) (s : Place) : Type 0 where
  pub watch : after.watch ≡ before.watch
  pub others : (q : ℕ) → q ≢ i → after.chains q ≡ before.chains q
  pub here : is_here s ≡ is_some (after.chains i)
  pub claims : (q : ℕ) → q ≢ i → (block : Hash) → after.claims q block ≡ before.claims q block
  pub right : IsRightAt s (after.claims i)

-- a peer is lost
pub is_lost : (before after : Seen) (i : ℕ) (loss : Loss) → IsPut before after i None no_claims → IsChanged before after i (Lost loss)
is_lost before after i loss put = record { watch = put.stays.watch; others = put.others; here = sym (ap is_some put.here); claims = put.claims_others; right = tt }

-- one place is set
pub set_moves : {mode : Mode} {way : Way} {d : Desk} {after : Seen} {acts : List Act} (i : ℕ) (s : Place) → i < length d.places → IsInOrder d → IsChanged d.seen after i s → Extends d.acts acts
    → (All IsDoable d.acts → All IsDoable acts) → (is_calm (get_or d.places i nobody) ≡ true → is_calm s ≡ true)
    → ((log next : Log) → way log next → Stands mode d log → Stands mode (record { places = set d.places i s; seen = after; acts = acts }) next)
    → Moves mode way d (record { places = set d.places i s; seen = after; acts = acts })
set_moves {d = d} {after = after} i s lt order changed more doable calm stands = record {
  stands = stands;
  order = record {
    few = omega (arith, order.few, length-set d.places i s);
    entered = entered_set d.places d.seen after i s lt changed.others changed.here order.entered;
    right = right_set d.places d.seen.claims after.claims i s lt changed.claims changed.right order.right;
  };
  watch = changed.watch;
  more = more;
  doable = doable;
  calm = λ was. set_each (λ (x : Place). is_calm x ≡ true) d.places i s lt was (calm (was i));
}

-- how what is shown of one log serves a way
pub same : {mode : Mode} {d now : Desk} → ((log : Log) → Stands mode d log → Stands mode now log) → (log next : Log) → Same log next → Stands mode d log → Stands mode now next
same {mode = mode} {now = now} stands log next is stood = subst (Stands mode now) (sym is) (stands log stood)

pub taken : {mode : Mode} {d now : Desk} {x : Delivery} → ((log : Log) → Stands mode d log → Stands mode now (Took x ∷ log)) → (log next : Log) → Taking x log next → Stands mode d log → Stands mode now next
taken {mode = mode} {now = now} stands log next is stood = subst (Stands mode now) (sym is) (stands log stood)

pub moves_self : {mode : Mode} (d : Desk) → IsInOrder d → Moves mode Same d d
moves_self d order = stay_moves order (same (λ log stood. stood))

-- a desk whose acts and places go on with the log, and whose seen things are those of another watch list that is the same
pub goes_watch : {mode : Mode} {watch now : List (List ℕ)} {places : List Place} {acts : List Act} {log : Log} → now ≡ watch
    → Goes (record { watch = watch; mode = mode }) places acts log → Goes (record { watch = now; mode = mode }) places acts log
goes_watch {mode = mode} {places = places} {acts = acts} {log = log} same goes =
    subst (λ (w : List (List ℕ)). Goes (record { watch = w; mode = mode }) places acts log) (sym same) goes

-- a peer is closed for its silence
pub late_moves : (mode : Mode) (d : Desk) (i : ℕ) (after : Seen) → i < length d.places → IsInOrder d → is_calm (get_or d.places i nobody) ≡ false → IsPut d.seen after i None no_claims
    → Moves mode Same d (acted d i (Lost (ClosedFor Overdue)) after (Close (record { 0 = i }) Overdue))
late_moves mode d i after lt order late put =
    set_moves i (Lost (ClosedFor Overdue)) lt order (is_lost d.seen after i (ClosedFor Overdue) put) (extends_one d.acts (Close (record { 0 = i }) Overdue))
    (λ all. All-push IsDoable d.acts (Close (record { 0 = i }) Overdue) all (omega (arith, lt, order.few))) (λ was. refl)
    (same (λ log stood. record {
      goes = goes_watch put.stays.watch (late_goes d.places d.acts log i lt stood.goes late
          (λ right omits. absurd (blameless_seen d.seen (done d.acts log) stood.tracks stood.unexposed right i omits)));
      tracks = closed_tracks d.seen after d.acts log (record { 0 = i }) Overdue put stood.tracks;
      unexposed = unexposed_put d.seen after i put stood.unexposed;
    }))

-- a connected peer is sent what may be sent to it
pub sent_moves : (mode : Mode) (way : Way) → ((log next : Log) → way log next → next ≡ log) → (d : Desk) (after : Seen) (i : ℕ) (peer now : Peer) (m : Msg)
    → i < length d.places → IsInOrder d → get_or d.places i nobody ≡ Here peer
    → IsDoable (Send (record { 0 = i }) m) → calm now ≡ true → IsRight now.request (d.seen.claims i) → HasOpened d.seen after i
    → ((log : Log) → way log log → Stands mode d log → Goes (rule_in mode d.seen) (set d.places i (Here now)) (d.acts ++ Send (record { 0 = i }) m ∷ []) log)
    → ((log : Log) → Stands mode d log → Tracks after (done (d.acts ++ Send (record { 0 = i }) m ∷ []) log))
    → Moves mode way d (acted d i (Here now) after (Send (record { 0 = i }) m))
sent_moves mode way stays d after i peer now m lt order here doable young right opened goes tracks =
    set_moves i (Here now) lt order
    (record {
      watch = opened.stays.watch;
      others = λ q other. opened.stays.chains q;
      here = sym (ap is_here here) ∙ order.entered i ∙ ap is_some (sym (opened.stays.chains i));
      claims = λ q other block. opened.stays.claims q block;
      right = right_same now.request (d.seen.claims i) (after.claims i) (opened.stays.claims i) right;
    })
    (extends_one d.acts (Send (record { 0 = i }) m)) (λ all. All-push IsDoable d.acts (Send (record { 0 = i }) m) all doable) (λ was. young)
    (λ log next on stood. (let is = stays log next on in
    subst (Stands mode (acted d i (Here now) after (Send (record { 0 = i }) m))) (sym is) (record {
      goes = goes_watch opened.stays.watch (goes log (subst (way log) is on) stood);
      tracks = tracks log stood;
      unexposed = unexposed_on d.seen after opened.stays.claims opened.stays.trials.told stood.unexposed;
    })))

-- a peer to which something is open, not for long, is settled
off_and : (b : Bool) → (b && false) ≡ false
off_and true = refl
off_and false = refl

settled_of : (young wanted idle : Bool) → young ≡ true → idle ≡ false → (young && not (wanted && idle)) ≡ true
settled_of young wanted idle is off = rw (is, off, off_and wanted) refl

busy_settled : (mode : Mode) (peer : Peer) → is_idle_peer peer ≡ false → calm peer ≡ true → is_settled mode (Here peer) ≡ true
busy_settled mode peer busy young = settled_of (calm peer) (not (heard_out mode peer)) (is_idle_peer peer) young busy

-- a connected peer is asked something
sent_asks : (mode : Mode) (d : Desk) (after : Seen) (i : ℕ) (peer now : Peer) (m : Msg) → i < length d.places → IsInOrder d → get_or d.places i nobody ≡ Here peer
    → is_idle_peer peer ≡ true → IsDoable (Send (record { 0 = i }) m) → is_question m ≡ true → is_idle_peer now ≡ false → calm now ≡ true → IsRight now.request (d.seen.claims i) → HasOpened d.seen after i
    → ((log : Log) → Stands mode d log → Goes (rule_in mode d.seen) (set d.places i (Here now)) (d.acts ++ Send (record { 0 = i }) m ∷ []) log)
    → ((log : Log) → Stands mode d log → Tracks after (done (d.acts ++ Send (record { 0 = i }) m ∷ []) log))
    → Asks mode i d (acted d i (Here now) after (Send (record { 0 = i }) m))
sent_asks mode d after i peer now m lt order here idle doable question busy young right opened goes tracks = record {
  moves = sent_moves mode Same (λ log next is. is) d after i peer now m lt order here doable young right opened (λ log is. goes log) tracks;
  asked = inr (m, ap is_idle here ∙ idle, question, refl);
  seen = opened;
  settled = ap (is_settled mode) (set_is d.places i (Here now) lt) ∙ busy_settled mode now busy young;
  idle = λ is. absurd (both_ways (is_idle_peer now) busy (sym (ap is_idle (set_is d.places i (Here now) lt)) ∙ is));
  others = λ p other. set_other d.places i p (Here now) other;
}

pub question_asks : (mode : Mode) (d : Desk) (i : ℕ) (peer : Peer) (m : Msg) → i < length d.places → IsInOrder d → get_or d.places i nobody ≡ Here peer → wants mode peer ≡ true → IsQuestion (chain_at d.seen i) m
    → Asks mode i d (acted d i (Here (asked_for_headers peer)) d.seen (Send (record { 0 = i }) m))
question_asks mode d i peer m lt order here wanted question =
    sent_asks mode d d.seen i peer (asked_for_headers peer) m lt order here (and_parts (not (heard_out mode peer)) (is_idle_peer peer) wanted).1 (omega (arith, lt, order.few), question.sendable)
    (above_asks (chain_at d.seen i) m question.asks) refl refl tt (opened_self d.seen i)
    (λ log stood. headers_goes d.places d.acts log d.seen i peer m lt stood.goes here wanted stood.tracks question)
    (λ log stood. headers_tracks d.places d.acts log d.seen i peer m stood.goes here (and_parts (not (heard_out mode peer)) (is_idle_peer peer) wanted).1 question stood.tracks)

-- so the peer at a place was sent a message
pub sent_is : {m : Msg} {change : Peer → Peer} {now : List Place} {acts more : List Act} (places : List Place) (i : ℕ)
    (found : Place) (peer : Peer) → i < length places → get_or places i found ≡ Here peer
    → is_idle (get_or places i nobody) ≡ true → IsSendable m → now ≡ set places i (Here (change peer))
    → more ≡ acts ++ Send (record { 0 = i }) m ∷ [] → IsSent i m change places now acts more
sent_is places i found peer lt is idle sendable kept added =
    let here = any_default places i nobody found lt ∙ is in
    record { sendable = sendable; peer = peer; here = here; idle = sym (ap is_idle here) ∙ idle; kept = kept; added = added }

-- a message is asked about the blocks of its chain
about_asks : (mode : Mode) (d : Desk) (after : Seen) (i : ℕ) (m : Msg) (change : Peer → Peer) (places : List Place) (acts : List Act) → i < length d.places → IsInOrder d → (sent : IsSent i m change d.places places d.acts acts)
    → is_question m ≡ true → is_idle_peer (change sent.peer) ≡ false → calm (change sent.peer) ≡ true → IsRight (change sent.peer).request (d.seen.claims i) → HasOpened d.seen after i
    → ((log : Log) → Stands mode d log → Goes (rule_in mode d.seen) (set d.places i (Here (change sent.peer))) (d.acts ++ Send (record { 0 = i }) m ∷ []) log)
    → ((log : Log) → Stands mode d log → Tracks after (done (d.acts ++ Send (record { 0 = i }) m ∷ []) log))
    → Asks mode i d (record { places = places; seen = after; acts = acts })
about_asks mode d after i m change places acts lt order sent question busy young right opened goes tracks =
    subst (λ (ps : List Place). Asks mode i d (record { places = ps; seen = after; acts = acts })) (sym sent.kept)
    (subst (λ (xs : List Act). Asks mode i d (record { places = set d.places i (Here (change sent.peer)); seen = after; acts = xs })) (sym sent.added)
    (sent_asks mode d after i sent.peer (change sent.peer) m lt order sent.here sent.idle (omega (arith, lt, order.few), sent.sendable) question busy young right opened goes tracks))

-- ---- what its tracker wishes of a peer that has nothing open

-- of a peer's question: how much of its chain the best one shares
abbrev shared_at : Seen → ℕ → PeerNo → ℕ
shared_at s i best = common_of (chain_at s i) (chain_at s best.0)

-- a tracker wishes for this, and has noted it
pub record IsNext (before after : Seen) (i : ℕ) (best : PeerNo) (wish : Wish) : Type 0 where
  pub is : IsBest before.chains (Some best)
  pub wished : IsWish before.table before.claims before.verdicts before.opens i (chain_at before i) (shared_at before i best) wish
  pub far : GoesFar before.table before.claims before.verdicts before.opens i (chain_at before i) (shared_at before i best) wish
  pub tries : Tries before i (shared_at before i best) wish
  pub opens : IsAskedFor i wish before.opens after.opens
  pub aims : IsAimed i wish before.trials.aims after.trials.aims
  pub opened : HasOpened before after i

-- nothing becomes open to others by it
pub asked_else : (i : ℕ) (wish : Wish) (before after : Opens) → IsAskedFor i wish before after → IsSameElse before after i
asked_else i Nothing before after same = else_of before after i same
asked_else i (Claims span) before after same = else_of before after i same
asked_else i (Filters span) before after opens = opens.others
asked_else i (Block hash) before after opens = opens.others
asked_else i (Test trial) before after opens = opens.others

furthest : {before after : Seen} {i : ℕ} {best : PeerNo} {wish : Wish} → IsNext before after i best wish
    → Furthest before i (shared_at before i best) wish
furthest {best = best} next = record { best = best; is = next.is; shared = refl; far = next.far }

shared_low : (s : Seen) (i : ℕ) (best : PeerNo) → shared_at s i best ≤ length (chain_at s i)
shared_low s i best = (common_low (chain_at s i) (chain_at s best.0)).0

next_same : (before after : Seen) (i : ℕ) (best : PeerNo) → IsNext before after i best Nothing → IsSameSeen before after
next_same before after i best next =
    let stays = next.opened.stays in
    let trials = aims_stay before.trials after.trials i stays.trials.paid stays.trials.told next.aims.here next.aims.others in
    record { watch = stays.watch; chains = stays.chains; claims = stays.claims; table = stays.table; verdicts = stays.verdicts; opens = next.opens; trials = trials; written = stays.written }

ended_by : (mode : Mode) (place : Place) (peer : Peer) → place ≡ Here peer → is_idle_peer peer ≡ true → is_settled mode place ≡ true → heard_out mode peer ≡ true
ended_by mode place peer here idle was = heard_by mode peer idle (settled_off mode (Here peer) (subst (λ (x : Place). is_settled mode x ≡ true) here was))

-- nothing is asked of a peer that is settled, and what was seen stays
pub none_asked : (mode : Mode) (d : Desk) (i : ℕ) → IsInOrder d → is_settled mode (get_or d.places i nobody) ≡ true → Asks mode i d d
none_asked mode d i order settled = record {
  moves = moves_self d order;
  asked = inl refl;
  seen = opened_self d.seen i;
  settled = settled;
  idle = λ is. refl;
  others = λ p other. refl;
}

pub quiet_asked : (mode : Mode) (d : Desk) (after : Seen) (i : ℕ) → IsInOrder d → is_settled mode (get_or d.places i nobody) ≡ true → IsSameSeen d.seen after
    → Asks mode i d (record { places = d.places; seen = after; acts = d.acts })
quiet_asked mode d after i order settled same =
    subst (λ (s : Seen). Asks mode i d (record { places = d.places; seen = s; acts = d.acts })) (sym (seen_same d.seen after same)) (none_asked mode d i order settled)

pub wished_asks : (mode : Mode) (d : Desk) (after : Seen) (i : ℕ) (best : PeerNo) (wish : Wish) (places : List Place)
    (acts : List Act) → i < length d.places → IsInOrder d → is_settled mode (get_or d.places i nobody) ≡ true
    → IsNext d.seen after i best wish → IsSentAsWished i wish d.places places d.acts acts
    → Asks mode i d (record { places = places; seen = after; acts = acts })
wished_asks mode d after i best Nothing places acts lt order settled next same =
    subst (λ (ps : List Place). Asks mode i d (record { places = ps; seen = after; acts = acts })) (sym same.0)
    (subst (λ (xs : List Act). Asks mode i d (record { places = d.places; seen = after; acts = xs })) (sym same.1)
    (quiet_asked mode d after i order settled (next_same d.seen after i best next)))
wished_asks mode d after i best (Claims span) places acts lt order settled next sent =
    let common = shared_at d.seen i best in
    let low = shared_low d.seen i best in
    about_asks mode d after i (GetCfheaders 0 span.start span.stop) (asked_for_claims (range_in span)) places acts lt order sent refl refl refl
    (let le = next.wished.1.1.1 in claims_right d.seen.claims i (chain_at d.seen i) next.wished.1.0 span 0 next.wished.0.0 (omega (arith, le, low)) next.wished.1.1.0 next.wished.0.2 next.wished.1.1.3) next.opened
    (λ log stood. claims_goes mode d.places d.acts log d.seen i sent.peer common span lt stood.goes sent.here sent.idle (ended_by mode (get_or d.places i nobody) sent.peer sent.here sent.idle settled) (furthest next) next.tries stood.tracks low next.wished sent.sendable)
    (λ log stood. claims_tracks d.places d.acts log d.seen after i common sent.peer span stood.goes sent.here sent.idle sent.sendable next.opened next.wished next.opens next.aims stood.tracks)
wished_asks mode d after i best (Filters span) places acts lt order settled next sent =
    let common = shared_at d.seen i best in
    let low = shared_low d.seen i best in
    about_asks mode d after i (GetCfilters 0 span.start span.stop) (asked_for_filters span.blocks.items) places acts lt order sent refl refl refl
    (filters_right (chain_at d.seen i) next.wished.1.0 span next.wished.0.1 next.wished.1.1.0) next.opened
    (λ log stood. filters_goes mode d.places d.acts log d.seen i sent.peer common span lt stood.goes sent.here sent.idle (ended_by mode (get_or d.places i nobody) sent.peer sent.here sent.idle settled) (furthest next) next.tries stood.tracks low next.wished sent.sendable)
    (λ log stood. filters_tracks d.places d.acts log d.seen after i common sent.peer span stood.goes sent.here sent.idle sent.sendable next.opened next.wished next.opens low next.aims stood.tracks)
wished_asks mode d after i best (Block hash) places acts lt order settled next for =
    about_asks mode d after i for.message (asked_for_block hash) places acts lt order for.sent (block_asked hash for.message for.asks)
    refl refl tt next.opened
    (λ log stood. block_goes mode d.places d.acts log d.seen i for.sent.peer (shared_at d.seen i best) hash for.message lt stood.goes for.sent.here for.sent.idle (ended_by mode (get_or d.places i nobody) for.sent.peer for.sent.here for.sent.idle settled) (furthest next) next.tries stood.tracks (shared_low d.seen i best) next.wished for.sent.sendable for.asks)
    (λ log stood. block_tracks d.places d.acts log d.seen after i for.sent.peer hash for.message stood.goes for.sent.here for.sent.idle for.sent.sendable for.asks next.opened next.opens next.aims stood.tracks)
wished_asks mode d after i best (Test trial) places acts lt order settled next sent =
    about_asks mode d after i (GetCfilters 0 trial.height trial.block) (asked_for_filters (trial.block ∷ [])) places acts lt order sent refl
    refl refl
    (omega arith) next.opened
    (λ log stood. test_goes mode d.places d.acts log d.seen i sent.peer (shared_at d.seen i best) trial lt stood.goes sent.here sent.idle (ended_by mode (get_or d.places i nobody) sent.peer sent.here sent.idle settled) (furthest next) next.tries stood.tracks next.wished sent.sendable)
    (λ log stood. test_tracks d.places d.acts log d.seen after i (shared_at d.seen i best) sent.peer trial stood.goes sent.here sent.idle sent.sendable next.opened next.tries next.opens next.aims stood.tracks)

-- something is open to whom a question was sent
sent_busy : {m : Msg} {change : Peer → Peer} {now : List Place} {acts more : List Act} (places : List Place) (i : ℕ)
    → i < length places → (sent : IsSent i m change places now acts more) → is_idle_peer (change sent.peer) ≡ false
    → is_idle (get_or now i nobody) ≡ false
sent_busy {change = change} places i lt sent busy =
    ap (λ (ps : List Place). is_idle (get_or ps i nobody)) sent.kept
    ∙ ap is_idle (set_is places i (Here (change sent.peer)) lt) ∙ busy

-- where nothing is wished for it was asked all that it is to be asked
pub wished_through : (d : Desk) (after : Seen) (i : ℕ) (best : PeerNo) (wish : Wish) (places : List Place) (acts : List Act)
    → i < length d.places → IsNext d.seen after i best wish → IsSentAsWished i wish d.places places d.acts acts
    → IsAskedThrough (get_or places i nobody) after i
wished_through d after i best Nothing places acts lt next same =
    let s = d.seen in
    subst (λ (x : Seen). IsAskedThrough (get_or places i nobody) x i) (sym (seen_same s after (next_same s after i best next)))
    (through_best (get_or places i nobody) s i best next.is
    (through_wish s.table s.claims s.verdicts s.opens i (chain_at s i) (shared_at s i best) next.wished) next.tries)
wished_through d after i best (Claims span) places acts lt next sent =
    asked_busy (get_or places i nobody) after i (sent_busy d.places i lt sent refl)
wished_through d after i best (Filters span) places acts lt next sent =
    asked_busy (get_or places i nobody) after i (sent_busy d.places i lt sent refl)
wished_through d after i best (Block hash) places acts lt next for =
    asked_busy (get_or places i nobody) after i (sent_busy d.places i lt for.sent refl)
wished_through d after i best (Test trial) places acts lt next sent =
    asked_busy (get_or places i nobody) after i (sent_busy d.places i lt sent refl)

-- ---- and then it has nothing left to be asked, or something is open to it
