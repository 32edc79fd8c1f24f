-- A piece up to a message that exposes its peer: who claims what it exposes is closed.
use Rattle.std.proofs.Common.{◌≡◌, ◌≢◌, ◌⊎◌, inl, inr, ℕ, zero, suc, ◌+◌, ◌<◌, List, [], ◌∷◌, ◌++◌, length, map, get_or, set, Option, Some, None, Ok, Err, Bool, true, false, if◌then◌else◌, refl, sym, ◌∙◌, ap, subst, arith, append_assoc}
use Rattle.std.specs.List.{All}
use Rattle.std.specs.Prelude.{is_some, option_map}
use Rattle.std.proofs.lemmas.Bool.{both_ways, cases_eq, false≢true}
use Rattle.std.proofs.lemmas.List.{append-nil, length-set}
use Rattle.std.proofs.lemmas.List.Elements.{All-push}
use Rattle.cf_bytes.specs.declared.peer.PeerNo.{PeerNo}
use Rattle.cf_dispute.specs.declared.claim.Claim.{Claim}
use Rattle.cf_dispute.specs.Claims.{Table, no_claims}
use Rattle.cf_frame.specs.Stream.{StreamRead, read_stream}
use Rattle.cf_headers.specs.Chain.{Hash, IsIn}
use Rattle.cf_msg.specs.declared.msg.Msg.{Msg}
use Rattle.cf_peer.specs.declared.act.Act.{Act}
use Rattle.cf_peer.specs.declared.mode.Mode.{Mode}
use Rattle.cf_peer.specs.declared.peer.Peer.{Peer}
use Rattle.cf_peer.specs.Acts.{IsDoable}
use Rattle.cf_peer.specs.Peer.{calm}
use Rattle.cf_peer.specs.Asking.{SameUse, NothingOpen, claims, counted, fetched_blocks, given_filters, hash_claimed, request}
use Rattle.cf_peer.specs.Trail.{Part, Trail, Asked, is_connected, heard_part, hears, hears_fault, item_of, item_of_read, has_version, replies_owed, own, part_after, part_of, replies_sent, trail, with_item}
use Rattle.cf_peer.proofs.Stream.{said_met}
use Rattle.cf_msg.specs.Reading.{message_of}
use Rattle.cf_frame.specs.declared.frame.Frame.{Frame}
use Rattle.cf_frame.specs.declared.frame.FrameFault.{FrameFault}
use Rattle.cf_wires.specs.declared.event.Delivery.TheVariants.{Got}
use Rattle.cf_wires.specs.declared.event.Event.TheVariants.{Closed, Took}
use Rattle.cf_wires.specs.Log.{Log}
use Rattle.cf_sync.specs.Fetching.{IsOmitting, Rule, once}
use Rattle.cf_sync.specs.Planned.{IsSameGiven}
use Rattle.cf_sync.proofs.Counted.{same_use}
use Rattle.cf_sync.proofs.Idle.{BringsNothing, rest_brings_nothing, rest_claims_nothing}
use Rattle.cf_hear.specs.Hearing.{HeardExposed}
use Rattle.cf_hear.specs.Exposing.{IsExposedIn, IsExposing, IsUnexposed}
use Rattle.cf_hear.specs.Tracks.{Tracks, chain_kept}
use Rattle.cf_hear.proofs.Tracking.{IsSameBrought, seen_at, tracks_exposed, tracks_on}
use Rattle.cf_seek.specs.Testing.{IsClaimedAs}
use Rattle.cf_holds.specs.Known.{OpensAt, claims_kept}
use Rattle.cf_holds.proofs.KeptAims.{trials_same}
use Rattle.cf_place.specs.declared.place.Place.{Place}
use Rattle.cf_place.specs.declared.place.Place.TheVariants.{Here, Lost}
use Rattle.cf_place.specs.Places.{Allowed, Fits, Keeps, PlacesStand, after, entry_of, is_calm, is_here, nobody, place_at}
use Rattle.cf_place.specs.Standing.{IsReplied, IsRepliedFirst}
use Rattle.cf_client.specs.Shutting.{Shuts, shut_act, shut_place}
use Rattle.cf_client.specs.Order.{AreTold}
use Rattle.cf_client.specs.Settled.{AreEntered, AreRight, IsRightAt}
use Rattle.cf_client.specs.Steps.{Desk, IsInOrder, Moves, Stands, Taking}
use Rattle.cf_client.proofs.Ordering.{told_shuts}
use Rattle.cf_client.proofs.Rights.{right_set}
use Rattle.cf_client.proofs.Steps.{IsChanged, entered_set, extends_none, start_places, start_tracks}
use Rattle.cf_hear.proofs.Hearing.{right_same}
use Rattle.cf_client.proofs.Shutting.{AreShut, IsGuilty, are_shut, in_below, number_in, shut_lost, unomitted_shuts}
use Rattle.cf_client.proofs.Settled.{set_each, set_other}
use Rattle.cf_client.proofs.Standing.{here_on, kept_replied, number_within, omitted_acts, right_before, set_is}
use Rattle.cf_client.proofs.Taking.{HearsExposed, HearsUnexposed, RepliesDone, unexposed_after, asked_all, asked_replied, claims_asked, follows_is, got_others, heard_connected, heard_log, heard_says, place_keeps, replies_done, sendable_by, sends, sends_track, unchanged, unomitted_sends}

-- what is claimed of a block by a table of a connected peer
claimed_hash : (table : Table) (block : Hash) (claim : Claim) → table block ≡ Some claim
    → hash_claimed table block ≡ Some claim.hash
claimed_hash table block claim is = ap (λ (o : Option Claim). option_map (λ (c : Claim). c.hash) o) is

-- a place that is in use has a number below their count, and its peer was answered
in_use : (places : List Place) (q : ℕ) → is_here (get_or places q nobody) ≡ true → q < length places
in_use [] q is = absurd (false≢true is)
in_use (x ∷ places) zero is = omega arith
in_use (x ∷ places) (suc q) is = (let lt = in_use places q is in omega (arith, lt))

answered_at : (place : Place) (part : Part) → Fits place part → is_here place ≡ true → IsReplied part.trail
answered_at (Here peer) part fits is = kept_replied peer part fits
answered_at (Lost loss) part fits is = absurd (false≢true is)

-- who has sent its version has sent it
met_hears : (fs : List Frame) (t : Trail) → has_version t ≡ true → has_version (hears fs t) ≡ true
met_hears [] t over = over
met_hears (f ∷ fs) t over = met_hears fs (item_of f ∷ t) (elim (message_of f) as
    (λ r. has_version (item_of_read r ∷ t) ≡ true) [ Ok m ↦ said_met m t over | Err e ↦ over ])

met_stays : (r : StreamRead) (t : Trail) → has_version t ≡ true → has_version (part_after r t).trail ≡ true
met_stays r t over = by r.fault where
  by : (o : Option FrameFault) → has_version (hears_fault o (hears r.frames t)) ≡ true
  by None = met_hears r.frames t over
  by (Some fault) = met_hears r.frames t over

-- what comes later stands on top of what was there
hears_join : (fs : List Frame) (t : Trail) → (later : Trail) × (hears fs t ≡ later ++ t)
hears_join [] t = ([], refl)
hears_join (f ∷ fs) t =
    let j = hears_join fs (item_of f ∷ t) in
    (j.0 ++ item_of f ∷ [], j.1 ∙ sym (append_assoc j.0 (item_of f ∷ []) t))

after_join : (r : StreamRead) (t : Trail) → (later : Trail) × ((part_after r t).trail ≡ later ++ t)
after_join r t = by r.fault where
  by : (o : Option FrameFault) → (later : Trail) × (hears_fault o (hears r.frames t) ≡ later ++ t)
  by None = hears_join r.frames t
  by (Some fault) = (let j = hears_join r.frames t in (hears_fault (Some fault) j.0, ap (hears_fault (Some fault)) j.1))

asked_join : (rs : List Msg) (part : Part) → (later : Trail) × ((asked_all rs part).trail ≡ later ++ part.trail)
asked_join [] part = ([], refl)
asked_join (r ∷ rs) part =
    let j = asked_join rs (with_item (Asked r) part) in
    (j.0 ++ Asked r ∷ [], j.1 ∙ sym (append_assoc j.0 (Asked r ∷ []) part.trail))

-- replies give nothing
given_asked : (rs : List Msg) (part : Part) → given_filters (counted (asked_all rs part).trail) ≡ given_filters (counted part.trail)
given_asked [] part = refl
given_asked (r ∷ rs) part = given_asked rs (with_item (Asked r) part)

-- acts after others
after_all : (one two : List Act) (log : Log) → after (one ++ two) log ≡ after two (after one log)
after_all [] two log = refl
after_all (a ∷ one) two log = after_all one two (entry_of a ∷ log)

allowed_all : (rule : Rule) (one two : List Act) (log : Log) → Allowed rule one log
    → Allowed rule two (after one log) → Allowed rule (one ++ two) log
allowed_all rule [] two log may more = more
allowed_all rule (a ∷ one) two log may more = (may.0, allowed_all rule one two (entry_of a ∷ log) may.1 more)

doable_all : (acts : List Act) (qs : List ℕ) → ((q : ℕ) → IsIn q qs → q < 9) → All IsDoable acts
    → All IsDoable (acts ++ map shut_act qs)
doable_all acts [] low all = subst (All IsDoable) (sym (append-nil acts)) all
doable_all acts (q ∷ qs) low all = subst (All IsDoable) (append_assoc acts (shut_act q ∷ []) (map shut_act qs))
    (doable_all (acts ++ shut_act q ∷ []) qs (λ k i. low k (inr i))
    (All-push IsDoable acts (shut_act q) all (low q (inl refl))))

-- whoever is closed, the same filters were given
shut_gave : (qs : List ℕ) (log : Log) → IsSameGiven log (after (map shut_act qs) log)
shut_gave [] log = λ job. (λ gave. gave, λ gave. gave)
shut_gave (q ∷ qs) log = shut_gave qs (Closed (record { 0 = q }) ∷ log)

-- ---- one log

module _ (d : Desk) (p : PeerNo) (piece : List ℕ) (old : Peer) (mid : Desk) (block filter : Hash) (log : Log)
    (none : d.acts ≡ []) (here : get_or d.places p.0 nobody ≡ Here old) (lt : p.0 < length d.places)
    (stand : PlacesStand d.places log) (tracks : Tracks d.seen log)
    (heard : HearsExposed p piece old d.seen mid.seen d.acts mid.acts block filter)
    (doable : All IsDoable mid.acts) where
  abbrev next : Log
  next = Took (Got p piece) ∷ log

  keeps : Keeps old (part_of log p.0)
  keeps = place_keeps d.places log p old here stand

  x : HeardExposed p d.seen mid.seen [] mid.acts (part_of log p.0) (heard_part piece (part_of log p.0)) block filter
  x = subst (λ (xs : List Act). HeardExposed p d.seen mid.seen xs mid.acts (part_of log p.0)
      (heard_part piece (part_of log p.0)) block filter) none
      (heard (part_of log p.0) keeps.holds keeps.waits (follows_is d.seen log p.0 tracks keeps.holds.on
      keeps.holds.clean))

  abbrev rs : List Msg
  rs = x.replies

  abbrev end : Part
  end = heard_part piece (part_of log p.0)

  use_so_far : SameUse x.so_far
  use_so_far = same_use x.so_far x.on x.clean

  idle : request (counted x.so_far) ≡ NothingOpen
  idle = use_so_far.open_one ∙ x.idle

  brings : BringsNothing x.so_far (part_after (read_stream x.later) x.so_far).trail
  brings = rest_brings_nothing (read_stream x.later) x.so_far idle

  rest : (claims (counted (part_after (read_stream x.later) x.so_far).trail) ≡ claims (counted x.so_far))
      × ((later : List Msg) × (replies_owed (counted (part_after (read_stream x.later) x.so_far).trail) ≡ replies_owed
      (counted x.so_far) ++ later))
  rest = rest_claims_nothing (read_stream x.later) x.so_far idle

  abbrev more : List Msg
  more = rest.1.0

  owes : replies_owed (counted end.trail) ≡ replies_owed (part_of log p.0).trail ++ (rs ++ more)
  owes = ap (λ (y : Part). replies_owed (counted y.trail)) (sym x.leads) ∙ rest.1.1
      ∙ ap (λ (ms : List Msg). ms ++ more) (use_so_far.owing ∙ x.owes)
      ∙ append_assoc (replies_owed (part_of log p.0).trail) rs more

  at_next : part_of next p.0 ≡ end
  at_next = heard_log p piece log

  up : is_connected (trail next p.0) ≡ true
  up = ap (λ (y : Part). is_connected y.trail) at_next ∙ heard_connected piece (part_of log p.0) ∙ keeps.holds.on

  sent_before : replies_sent end.trail ≡ replies_owed (part_of log p.0).trail
  sent_before = (heard_says piece (part_of log p.0)).replies ∙ keeps.answered.replies

  due : replies_owed (counted (trail next p.0)) ≡ replies_sent (trail next p.0) ++ (rs ++ more)
  due = ap (λ (y : Part). replies_owed (counted y.trail)) at_next ∙ owes
      ∙ ap (λ (ms : List Msg). ms ++ (rs ++ more)) (sym sent_before)
      ∙ sym (ap (λ (y : Part). replies_sent y.trail ++ (rs ++ more)) at_next)

  done : {rule : Rule} → RepliesDone rule p rs next
  done = replies_done p rs more next (number_within d.places log p.0 stand lt) x.are.each
      (sendable_by p rs (subst (All IsDoable) x.acts doable)) up
      (met_late rs x.are.after_version) due where
        met_late : (ms : List Msg) → (ms ≡ []) ⊎ (has_version x.so_far ≡ true) → (ms ≡ []) ⊎ (has_version (trail next p.0) ≡ true)
        met_late ms (inl empty) = inl empty
        met_late ms (inr over) = inr (ap (λ (y : Part). has_version y.trail) (at_next ∙ sym x.leads)
            ∙ met_stays (read_stream x.later) x.so_far over)

  abbrev sent : Log
  sent = after (sends p rs) next

  at_end : part_of sent p.0 ≡ asked_all rs end
  at_end = (done {rule = once []}).here ∙ ap (asked_all rs) at_next

  first : IsRepliedFirst (trail sent p.0)
  first sound =
      let heard_more = after_join (read_stream x.later) x.so_far in
      let sent_more = asked_join rs end in (
        x.so_far,
        record {
          later = sent_more.0 ++ heard_more.0;
          joined = ap (λ (y : Part). y.trail) at_end ∙ sent_more.1
              ∙ ap (λ (u : Trail). sent_more.0 ++ u) (ap (λ (y : Part). y.trail) (sym x.leads) ∙ heard_more.1)
              ∙ sym (append_assoc sent_more.0 heard_more.0 x.so_far);
          gave = ap (λ (y : Part). given_filters (counted y.trail)) at_end ∙ given_asked rs end
              ∙ ap (λ (y : Part). given_filters (counted y.trail)) (sym x.leads) ∙ brings.2;
          claimed = ap (λ (y : Part). claims (counted y.trail)) at_end ∙ claims_asked rs end
              ∙ ap (λ (y : Part). claims (counted y.trail)) (sym x.leads) ∙ rest.0;
        },
        ap (λ (y : Part). replies_sent y.trail) at_end ∙ asked_replied rs end x.are.each
            ∙ ap (λ (ms : List Msg). ms ++ rs) sent_before ∙ sym x.owes ∙ sym use_so_far.owing,
      )

  read : Tracks (seen_at mid.seen next) sent
  read = sends_track p rs (seen_at mid.seen next) next x.are.each
      (sendable_by p rs (subst (All IsDoable) x.acts doable))
      (tracks_exposed p d.seen mid.seen [] mid.acts piece log block filter x
      (ap (λ (y : Part). fetched_blocks (counted y.trail)) (sym x.leads)
      ∙ brings.1) (ap (λ (y : Part). given_filters (counted y.trail)) (sym x.leads) ∙ brings.2) tracks)

  -- who claims it omits something
  omitting : (q : ℕ) (claim : Claim) → is_connected (trail sent q) ≡ true
      → claims (counted (trail sent q)) block ≡ Some claim → claim.hash.0 ≡ filter → IsOmitting sent q
  omitting q claim on mine this =
      let found : mid.seen.trials.told block claim.hash.0 ≡ Some true = ap (mid.seen.trials.told block) this
      ∙ x.exposed.found in
      let w = read.trials.told.lacking block claim.hash found in
      record {
        there = on;
        block = block;
        hash = claim.hash;
        claimed = claimed_hash
            (claims (counted (trail sent q))) block claim mine;
        tested = w.0;
        omits = w.1;
      }

  here_claims : (claim : Claim) → mid.seen.claims p.0 block ≡ Some claim
      → claims (counted (trail sent p.0)) block ≡ Some claim
  here_claims claim is =
      ap (λ (y : Part). claims (counted y.trail) block) at_end ∙ ap (λ (c : Table). c block) (claims_asked rs end)
      ∙ ap (λ (y : Part). claims (counted y.trail) block) (sym x.leads)
      ∙ ap (λ (c : Table). c block) (rest.0 ∙ use_so_far.claiming) ∙ sym (x.gains.follows.claims block) ∙ is

  others_same : (q : ℕ) → q ≢ p.0 → part_of sent q ≡ part_of log q
  others_same q other = (done {rule = once []}).others q other ∙ got_others p piece q (part_of log q) other

  guilty_here : (claim : Claim) → mid.seen.claims p.0 block ≡ Some claim → claim.hash.0 ≡ filter → IsGuilty sent p.0
  guilty_here claim is this =
      let on : is_connected (trail sent p.0) ≡ true = ap (λ (y : Part). is_connected y.trail) at_end
      ∙ (unchanged rs end x.are.each).on ∙ heard_connected piece (part_of log p.0) ∙ keeps.holds.on in
      let omits = omitting p.0 claim on (here_claims claim is) this in
      record {
        number = omega (
          arith,
          number_within d.places log p.0 stand lt,
          (done {rule = once []}).count,
        );
        omits = omits;
        replied = inr (omits, first);
      }

  -- another one that is connected is as it was: it was answered, and what it claims is kept
  guilty_other : (q : ℕ) (claim : Claim) → q ≢ p.0 → is_here (place_at d.places q) ≡ true
      → mid.seen.claims q block ≡ Some claim → claim.hash.0 ≡ filter → IsGuilty sent q
  guilty_other q claim other stays is this =
      let same = others_same q other in
      let on : is_connected (trail log q) ≡ true = here_on (place_at d.places q) (part_of log q) (stand.each q) ∙ stays in
      let mine : claims (counted (trail log q)) block ≡ Some claim =
      sym (tracks.claimed q block ∙ ap (λ (b : Bool). (if b then claims (counted (trail log q)) else no_claims) block)
      on) ∙ sym (x.gains.claims q other block) ∙ is in
      let omits = omitting q claim (ap (λ (y : Part). is_connected y.trail) same
      ∙ on) (ap (λ (y : Part). claims (counted y.trail) block) same ∙ mine) this in
      record {
        number = omega (arith, in_use d.places q stays, stand.count, (done {rule = once []}).count);
        omits = omits;
        replied = inl (subst (λ (y : Part). IsReplied y.trail) (sym same)
            (answered_at (place_at d.places q) (part_of log q) (stand.each q) stays));
      }

  -- ---- and once they were closed

  module _ (peer : Peer) (now : Desk) (placed : mid.places ≡ set d.places p.0 (Here peer)) (chains : (q : ℕ) → q ≢ p.0
      → mid.seen.chains q ≡ d.seen.chains q)
      (order : IsInOrder d) (shuts : Shuts block filter mid now) where
    abbrev qs : List ℕ
    qs = shuts.closed

    at_other : (q : ℕ) → q ≢ p.0 → place_at mid.places q ≡ place_at d.places q
    at_other q other = ap (λ (ps : List Place). place_at ps q) placed ∙ set_other d.places p.0 q (Here peer) other

    at_here : place_at mid.places p.0 ≡ Here peer
    at_here = ap (λ (ps : List Place). place_at ps p.0) placed ∙ set_is d.places p.0 (Here peer) lt

    p_closed : IsIn p.0 qs
    p_closed = shuts.all p.0 (omega (
      arith,
      lt,
      ap (λ (ps : List Place). length ps) placed,
      length-set d.places p.0
          (Here peer),
    ))
        (record { here = ap is_here at_here; claimed = x.exposed.claimed })

    guilty : (q : ℕ) → IsIn q qs → IsGuilty sent q
    guilty q i =
        let c = shuts.claimants q i in
        elim (cases_eq q p.0) [
          | inl this ↦ subst (IsGuilty sent) (sym this)
              (guilty_here c.claimed.claim (ap (λ (k : ℕ). mid.seen.claims k block) (sym this)
              ∙ c.claimed.mine) c.claimed.this)
          | inr other ↦ guilty_other q c.claimed.claim other (ap is_here (sym (at_other q other))
              ∙ c.here) c.claimed.mine c.claimed.this
        ]

    shut : {rule : Rule} → AreShut rule qs sent
    shut {rule = rule} = are_shut rule qs sent shuts.rising guilty

    abbrev last : Log
    last = after (map shut_act qs) sent

    off : (q : ℕ) → IsIn q qs → is_connected (trail last q) ≡ false
    off q i = ap (λ (y : Part). is_connected y.trail) ((shut {rule = once []}).here q i)

    left : (q : ℕ) → (IsIn q qs → ⊥) → q ≢ p.0
    left q out this = out (subst (λ (k : ℕ). IsIn k qs) (sym this) p_closed)

    as_before : (q : ℕ) → (IsIn q qs → ⊥) → part_of last q ≡ part_of log q
    as_before q out = (shut {rule = once []}).others q out ∙ others_same q (left q out)

    places_stand : PlacesStand now.places last
    places_stand = record {
      count = shuts.count ∙ ap (λ (ps : List Place). length ps) placed ∙ length-set d.places p.0 (Here peer)
          ∙ stand.count
          ∙ ap (λ (n : ℕ). n + 1) (sym ((shut {rule = once []}).dials ∙ (done {rule = once []}).count));
      omitted = λ q is. elim (number_in q qs) [
        | inl i ↦ (shut {rule = once []}).omitted q i
        | inr out ↦ omitted_acts (map shut_act qs) sent q (omitted_acts (sends p rs) next q
            (stand.omitted q (sym ((shuts.kept q out).0 ∙ at_other q (left q out)) ∙ is)))
      ];
      named = λ right q is. elim (number_in q qs) [
        | inl i ↦ (shuts.gone q i).0
        | inr out ↦ (shuts.kept q out).0 ∙ at_other q (left q out)
            ∙ stand.named (right_before (sends p rs) next (right_before (map shut_act qs) sent right)).1 q
            (unomitted_sends p rs next q (unomitted_shuts qs sent q out is))
      ];
      each = λ q. elim (number_in q qs) [
        | inl i ↦ subst (λ (y : Place). Fits y (part_of last q)) (sym (shuts.gone q i).0)
            (subst (λ (y : Part). Fits shut_place y) (sym ((shut {rule = once []}).here q i))
            (shut_lost (trail sent q) (guilty q i).omits.there))
        | inr out ↦ subst (λ (y : Place). Fits y (part_of last q)) (sym ((shuts.kept q out).0
            ∙ at_other q (left q out)))
            (subst (λ (y : Part). Fits (place_at d.places q) y) (sym (as_before q out)) (stand.each q))
      ];
    }

    brought : IsSameBrought sent last
    brought = record {
      blocks = λ q. elim (number_in q qs) [
        | inl i ↦ ap (λ (y : Part). fetched_blocks (counted y.trail)) ((shut {rule = once []}).here q i)
        | inr out ↦ ap (λ (y : Part). fetched_blocks (counted y.trail)) ((shut {rule = once []}).others q out)
      ];
      filters = shut_gave qs sent;
    }

    tracked : Tracks now.seen last
    tracked = tracks_on (seen_at mid.seen next) now.seen sent last shuts.watch shuts.table shuts.verdicts
        (λ q. elim (number_in q qs) [
          | inl i ↦ (shuts.gone q i).1 ∙ sym (ap (λ (b : Bool). if b then Some (own (trail last q)) else None)
              (off q i))
          | inr out ↦ (shuts.kept q out).1 ∙ chains q (left q out) ∙ tracks.kept q
              ∙ sym (ap (λ (y : Part). chain_kept y.trail) (as_before q out))
        ])
        (λ q at. elim (number_in q qs) [
          | inl i ↦ (shuts.gone q i).2 at ∙ sym (ap (λ (b : Bool). (if b then claims (counted (trail last q)) else
              no_claims) at) (off q i))
          | inr out ↦ (shuts.kept q out).2 at ∙ x.gains.claims q (left q out) at ∙ tracks.claimed q at
              ∙ sym (ap (λ (y : Part). claims_kept y.trail at) (as_before q out))
        ])
        (λ q. elim (number_in q qs) [
          | inl i ↦ record {
            filters = λ b is. absurd (both_ways (now.seen.opens.filters q b) ((shuts.gone q i).3 b) is);
            all_filters = λ b on j. absurd (both_ways (is_connected (trail last q)) (off q i) on);
            blocks = λ b is. absurd (both_ways (now.seen.opens.blocks q b) ((shuts.gone q i).4 b) is);
            all_blocks = λ b on j. absurd (both_ways (is_connected (trail last q)) (off q i) on);
          }
          | inr out ↦ (
              let other = left q out in
              let same = ap (λ (y : Part). y.trail) (as_before q out) in
              let was = subst (OpensAt d.seen.opens q) (sym same) (tracks.opened q) in
              let filters : (b : Hash) → now.seen.opens.filters q b ≡ d.seen.opens.filters q b = λ b.
              (shuts.kept q out).3 b ∙ x.gains.opens.filters q other b in
              let blocks : (b : Hash) → now.seen.opens.blocks q b ≡ d.seen.opens.blocks q b = λ b.
              (shuts.kept q out).4 b ∙ x.gains.opens.blocks q other b in
              record {
                filters = λ b is. was.filters b (sym (filters b) ∙ is);
                all_filters = λ b on j. filters b ∙ was.all_filters b on j;
                blocks = λ b is. was.blocks b (sym (blocks b) ∙ is);
                all_blocks = λ b on j. blocks b ∙ was.all_blocks b on j;
              }
              )
        ])
        brought (trials_same last mid.seen.trials now.seen.trials shuts.trials.paid shuts.trials.told
        shuts.trials.aims ((shut {rule = once []}).trials mid.seen.trials read.trials)) read

    ends : after now.acts next ≡ last
    ends = ap (λ (xs : List Act). after xs next) (shuts.added ∙ ap (λ (xs : List Act). xs ++ map shut_act qs) x.acts)
        ∙ after_all (sends p rs) (map shut_act qs) next

    exposed_stands : (mode : Mode) → IsUnexposed now.seen → Stands mode now next
    exposed_stands mode unexposed = record {
      goes = record {
        stand = subst (PlacesStand now.places) (sym ends) places_stand;
        allowed = subst (λ (xs : List Act). Allowed (record { watch = now.seen.watch; mode = mode }) xs next) (sym (shuts.added
            ∙ ap (λ (xs : List Act). xs ++ map shut_act qs) x.acts))
            (allowed_all (record { watch = now.seen.watch; mode = mode }) (sends p rs) (map shut_act qs) next done.allowed shut.allowed);
      };
      tracks = subst (Tracks now.seen) (sym ends) tracked;
      unexposed = unexposed;
    }

    exposed_acts : now.acts ≡ sends p rs ++ map shut_act qs
    exposed_acts = shuts.added ∙ ap (λ (xs : List Act). xs ++ map shut_act qs) x.acts

    shuts_told : AreTold now.acts
    shuts_told = told_shuts p rs qs now.acts x.are.each shuts.rising exposed_acts

    low : (q : ℕ) → IsIn q qs → q < 9
    low q i = (let lt_places = in_below (length mid.places) qs shuts.below q i in
        let same = ap (λ (ps : List Place). length ps) placed in omega
        (arith, lt_places, same, length-set d.places p.0 (Here peer), order.few))

    still_doable : All IsDoable now.acts
    still_doable = subst (All IsDoable) (sym shuts.added) (doable_all mid.acts qs low doable)

-- ---- as a step

-- after it nobody is exposed
pub nobody_exposed : (p : ℕ) (block filter : Hash) (mid now : Desk) → IsExposing mid.seen p block filter
    → is_here (place_at mid.places p) ≡ true
    → ((q : ℕ) → is_here (place_at mid.places q) ≡ true → q < length mid.places)
    → ((q : ℕ) → is_some (mid.seen.chains q) ≡ is_here (place_at mid.places q))
    → ((q : ℕ) (at : Hash) (claim : Claim) → mid.seen.claims q at ≡ Some claim → is_some (mid.seen.chains q) ≡ true)
    → Shuts block filter mid now → IsUnexposed now.seen
nobody_exposed p block filter mid now exposing here within entered claiming shuts q at of e = elim
    (number_in q shuts.closed) [
      | inl i ↦ absurd (let no : None ≡ Some e.claimed.claim = sym ((shuts.gone q i).2 at) ∙ e.claimed.mine in cc no)
      | inr out ↦ (
          let mine = sym ((shuts.kept q out).2 at) ∙ e.claimed.mine in
          let was : IsExposedIn mid.seen q at of = record {
            claimed = record { claim = e.claimed.claim; mine = mine; this = e.claimed.this };
            found = sym (shuts.trials.told at of) ∙ e.found;
          } in
          let up : is_here (place_at mid.places q) ≡ true = sym (entered q) ∙ claiming q at e.claimed.claim mine in
          elim (exposing.others q at of was) [
            | inl this ↦ out (shuts.all q (within q up) (record {
              here = up;
              claimed = subst (λ (k : ℕ). IsClaimedAs
                  mid.seen.claims k block filter) (sym this) exposing.here.claimed;
            }))
            | inr same ↦ out (shuts.all q (within q up) (record {
              here = up;
              claimed = record {
                claim = e.claimed.claim;
                mine = ap (mid.seen.claims q) (sym same.0)
                    ∙ mine;
                this = e.claimed.this ∙ same.1;
              };
            }))
          ]
          )
    ]

-- whoever claims something is tracked
claimed_there : (d mid : Desk) (p : PeerNo) {peer : Peer} (log : Log) → Tracks d.seen log
    → IsChanged d.seen mid.seen p.0 (Here peer) → (q : ℕ) (at : Hash) (claim : Claim)
    → mid.seen.claims q at ≡ Some claim
    → is_some (mid.seen.chains q) ≡ true
claimed_there d mid p log tracks changed q at claim e = elim (cases_eq q p.0) [
  | inl this ↦ ap (λ (k : ℕ). is_some (mid.seen.chains k)) this ∙ sym changed.here
  | inr other ↦ ap is_some (changed.others q other) ∙ ap is_some (tracks.kept q)
      ∙ by (is_connected (trail log q)) (sym (tracks.claimed q at) ∙ sym (changed.claims q other at) ∙ e)
] where
  by : (on : Bool) → (if on then claims (counted (trail log q)) else no_claims) at ≡ Some claim
      → is_some (if on then Some (own (trail log q)) else None) ≡ true
  by true is = refl
  by false is = cc is

-- the desk is in order still
shut_order : (block filter : Hash) (mid now : Desk) → IsInOrder mid → Shuts block filter mid now → IsInOrder now
shut_order block filter mid now order shuts = record {
  few = omega (arith, order.few, shuts.count);
  entered = λ q. elim (number_in q shuts.closed) [
    | inl i ↦ ap is_here (shuts.gone q i).0 ∙ sym (ap is_some (shuts.gone q i).1)
    | inr out ↦ ap is_here (shuts.kept q out).0 ∙ order.entered q ∙ sym (ap is_some (shuts.kept q out).1)
  ];
  right = λ q. elim (number_in q shuts.closed) [
    | inl i ↦ subst (λ (y : Place). IsRightAt y (now.seen.claims q)) (sym (shuts.gone q i).0) tt
    | inr out ↦ subst (λ (y : Place). IsRightAt y (now.seen.claims q)) (sym (shuts.kept q out).0)
        (right_on (place_at mid.places q) (mid.seen.claims q) (now.seen.claims q) (shuts.kept q out).2 (order.right q))
  ];
} where
  right_on : (place : Place) (a b : Table) → ((at : Hash) → b at ≡ a at) → IsRightAt place a → IsRightAt place b
  right_on (Here peer) a b same right = right_same peer.request a b same right
  right_on (Lost loss) a b same right = tt

pub exposed_moves : (mode : Mode) (d : Desk) (p : PeerNo) (piece : List ℕ) (old peer : Peer) (mid now : Desk) (block filter : Hash)
    → p.0 < length d.places → d.acts ≡ [] → IsInOrder d → get_or d.places p.0 nobody ≡ Here old
    → HearsExposed p piece old d.seen mid.seen d.acts mid.acts block filter
    → HearsUnexposed p old d.seen (IsExposing mid.seen p.0 block filter) → IsChanged d.seen mid.seen p.0 (Here peer)
    → mid.places ≡ set d.places p.0 (Here peer)
    → All IsDoable mid.acts → (calm old ≡ true → calm peer ≡ true) → Shuts block filter mid now
    → Moves mode (Taking (Got p piece)) d now
exposed_moves mode d p piece old peer mid now block filter lt none order here heard unexposes changed placed doable calms
    shuts =
    let middle : IsInOrder mid = record {
      few = omega (arith, order.few, ap (λ (ps : List Place). length ps) placed, length-set d.places p.0 (Here peer));
      entered = subst (λ (ps : List Place). AreEntered ps mid.seen) (sym placed)
          (entered_set d.places d.seen mid.seen p.0 (Here peer) lt changed.others changed.here order.entered);
      right = subst (λ (ps : List Place). AreRight ps mid.seen.claims) (sym placed)
          (right_set d.places d.seen.claims mid.seen.claims p.0
          (Here peer) lt changed.claims changed.right order.right);
    } in
    let up : is_here (place_at mid.places p.0) ≡ true = ap (λ (ps : List Place). is_here (place_at ps p.0)) placed
    ∙ ap is_here (set_is d.places p.0 (Here peer) lt) in
    record {
      stands = λ log next is stood.
          let stand = start_places d log none stood in
          let tracks = start_tracks d log none stood in
          let exposing = unexposed_after d.places log p old d.seen
          (IsExposing mid.seen p.0 block filter) here stand tracks unexposes stood.unexposed in
          let clear = nobody_exposed p.0 block filter mid now exposing up (λ q here_too. in_use mid.places q here_too)
          (λ q. sym (middle.entered q)) (claimed_there d mid p log tracks changed) shuts in
          subst (Stands mode now) (sym is) (exposed_stands d p piece old mid block filter log none here lt stand tracks
          heard doable peer now placed changed.others order shuts mode clear);
      order = shut_order block filter mid now middle shuts;
      watch = shuts.watch ∙ changed.watch;
      more = extends_none d.acts now.acts none;
      doable = λ all. subst (All IsDoable) (sym shuts.added) (doable_all mid.acts shuts.closed
          (λ q i. (let in_places = in_below (length mid.places) shuts.closed shuts.below q i in omega
          (arith, in_places, middle.few))) doable);
      calm = λ was q. elim (number_in q shuts.closed) [
        | inl i ↦ ap is_calm (shuts.gone q i).0
        | inr out ↦ ap is_calm (shuts.kept q out).0 ∙ ap (λ (ps : List Place). is_calm (place_at ps q)) placed
            ∙ set_each (λ (y : Place). is_calm y ≡ true) d.places p.0 (Here peer) lt was
            (calms (subst (λ (y : Place). is_calm y ≡ true) here (was p.0))) q
      ];
    }

-- what was told is in order
pub exposed_told : (mode : Mode) (d : Desk) (p : PeerNo) (piece : List ℕ) (old peer : Peer) (mid now : Desk) (block filter : Hash)
    (log : Log)
    → p.0 < length d.places → d.acts ≡ [] → IsInOrder d → get_or d.places p.0 nobody ≡ Here old
    → HearsExposed p piece old d.seen mid.seen d.acts mid.acts block filter
    → IsChanged d.seen mid.seen p.0 (Here peer) → mid.places ≡ set d.places p.0 (Here peer) → All IsDoable mid.acts
    → Shuts block filter mid now → Stands mode d log → AreTold now.acts
exposed_told mode d p piece old peer mid now block filter log lt none order here heard changed placed doable shuts stood =
    shuts_told d p piece old mid block filter log none here lt (start_places d log none stood)
    (start_tracks d log none stood) heard doable peer now placed changed.others order shuts
