-- How a piece of a peer's bytes, its going, and a tick change the places, and what is seen of them.
use Rattle.std.proofs.Common.{◌≡◌, ◌≢◌, ◌⊎◌, inl, inr, ℕ, zero, suc, ◌<◌, ◌≤◌, List, [], ◌∷◌, ◌++◌, length, get_or, set, map, Option, Some, None, Ok, Err, Bool, true, false, if◌then◌else◌, refl, sym, ◌∙◌, ap, subst, arith, append_assoc}
use Rattle.std.proofs.lemmas.Grind.{common_steps}
use Rattle.std.specs.Prelude.{is_some}
use Rattle.std.proofs.lemmas.Bool.{both_ways, cases_eq, false≢true}
use Rattle.std.proofs.lemmas.List.{append-nil}
use Rattle.std.proofs.lemmas.List.Elements.{All-push}
use Rattle.std.specs.List.{All, AllByRecursion}
use Rattle.cf_bytes.specs.declared.hash.Hash32.{Hash32}
use Rattle.cf_bytes.specs.declared.peer.PeerNo.{PeerNo}
use Rattle.cf_frame.specs.declared.frame.Frame.{Frame}
use Rattle.cf_frame.specs.declared.frame.FrameFault.{FrameFault}
use Rattle.cf_frame.specs.Stream.{read_stream}
use Rattle.cf_msg.specs.declared.msg.Msg.{Msg}
use Rattle.cf_msg.specs.declared.msg.Msg.TheVariants.{Verack, Pong}
use Rattle.cf_msg.specs.Reading.{message_of}
use Rattle.cf_msg.specs.Message.{is_version}
use Rattle.cf_peer.specs.declared.act.Act.{Act}
use Rattle.cf_peer.specs.declared.act.Act.TheVariants.{Send, Close}
use Rattle.cf_peer.specs.declared.mode.Mode.{Mode}
use Rattle.cf_wires.specs.declared.event.Delivery.TheVariants.{Got, Gone, Tick, Ended}
use Rattle.cf_wires.specs.declared.event.Event.TheVariants.{Sent, Closed, Took}
use Rattle.cf_wires.specs.declared.event.Mark.TheVariants as mark
use Rattle.cf_peer.specs.declared.peer.Cause.{Cause}
use Rattle.cf_peer.specs.declared.peer.Cause.TheVariants.{SendFailed, Omits}
use Rattle.cf_peer.specs.declared.peer.Peer.{Peer}
use Rattle.cf_peer.specs.Acts.{bytes_of, IsSendable, IsDoable}
use Rattle.cf_wires.specs.Log.{Log, tally_of}
use Rattle.cf_peer.specs.Trail.{Trail, Part, Asked, Lost as LostItem, item_of, item_of_read, hears, hears_fault, heard_part, part_of, trail, went_on, with_item, is_connected, has_failed, is_greeted, has_version, own, is_heard_out, replies_owed, replies_sent, as_reply, IsReply}
use Rattle.cf_peer.specs.Asking.{claims, request, verdict, counted, IsNextReply}
use Rattle.cf_peer.specs.Peer.{Holds, calm}
use Rattle.cf_dispute.specs.Claims.{Table, no_claims}
use Rattle.cf_headers.specs.Chain.{Hash}
use Rattle.cf_sync.specs.Fetching.{MaySendIn, Rule, blocks_open, filters_open}
use Rattle.cf_holds.specs.Due.{IsCalledFor}
use Rattle.cf_sync.specs.Honesty.{messages_asked}
use Rattle.cf_sync.proofs.Counted.{same_use}
use Rattle.cf_sync.specs.Blame.{HasOmitted}
use Rattle.cf_sync.proofs.Omitted.{connected_unomitted, words_unnamed}
use Rattle.cf_hear.specs.Hearing.{HeardWhole, HeardFault, HeardExposed}
use Rattle.cf_hear.specs.Exposing.{IsUnexposed}
use Rattle.cf_hear.specs.Seen.{Follows}
use Rattle.cf_tracker.specs.Seen.{Seen}
use Rattle.cf_hear.proofs.Exposing.{unexposed_put}
use Rattle.cf_hear.specs.Tracks.{Tracks, IsPut}
use Rattle.cf_hear.proofs.Tracking.{tracks_sent, tracks_closed, tracks_gone, tracks_away, tracks_tick, tracks_ended, tracks_lost, tracks_deaf, tracks_heard, tracks_faulty, put_off}
use Rattle.cf_place.specs.declared.place.Place.{Place}
use Rattle.cf_place.specs.declared.place.Place.TheVariants.{Here, Lost}
use Rattle.cf_place.specs.declared.place.Loss.{Loss}
use Rattle.cf_place.specs.declared.place.Loss.TheVariants.{Gone as HasGone, Closed as ClosedFor}
use Rattle.cf_place.specs.Places.{Keeps, Fits, nobody, PlacesStand, after, Allowed, Goes, CutFor, AreCalm, is_calm, is_here}
use Rattle.cf_place.specs.Standing.{IsGreetedBy, IsAnswered, IsLost, IsNamed}
use Rattle.cf_client.specs.Order.{AreTold}
use Rattle.cf_client.specs.Steps.{Desk, Stands, IsInOrder, Taking, CutOff, Same, Moves}
use Rattle.cf_client.proofs.Standing.{greeted_more, after-append, allowed-append, set_is, stand_at, stand_same, here_on, goes_start, sent_others, sent_here, closed_others, closed_here, number_within, named_set, omitted_acts, omitted_set, right_before, unomitted_close}
use Rattle.cf_client.proofs.Losing.{lost_again, lost_said, lost_refused, goes_now, shut_now, cut_now}
use Rattle.cf_client.proofs.Naming.{claimed_by, omitting_told}
use Rattle.cf_client.proofs.Settled.{set_other}
use Rattle.cf_client.proofs.Ordering.{told_replies, told_fault}
use Rattle.cf_client.proofs.Spelled.{spelled_bytes}
use Rattle.cf_client.proofs.Steps.{IsChanged, is_lost, goes_watch, extends_self, extends_none, extends_one, stands_start, start_places, start_tracks, stay_moves, set_moves, taken}
use Rattle.cf_holds.proofs.KeptAims.{IsNoQuestion}

-- what a peer says loses nobody, and nothing is sent by it
pub record SaysOnly (after before : Trail) : Type 0 where
  pub on : is_connected after ≡ is_connected before
  pub replies : replies_sent after ≡ replies_sent before
  pub asks : messages_asked after ≡ messages_asked before
  pub greets : is_greeted after ≡ is_greeted before
  pub lost : (loss : Loss) → IsLost loss before → IsLost loss after

says_nothing : (t : Trail) → SaysOnly t t
says_nothing t = record { on = refl; replies = refl; asks = refl; greets = refl; lost = λ loss lost. lost }

says_more : (a b c : Trail) → SaysOnly b a → SaysOnly c b → SaysOnly c a
says_more a b c one two = record { on = two.on ∙ one.on; replies = two.replies ∙ one.replies; asks = two.asks ∙ one.asks; greets = two.greets ∙ one.greets; lost = λ loss lost. two.lost loss (one.lost loss lost) }

item_says : (f : Frame) (t : Trail) → SaysOnly (item_of f ∷ t) t
item_says f t = elim (message_of f) as (λ r. SaysOnly (item_of_read r ∷ t) t) [
  | Ok m ↦ record { on = refl; replies = refl; asks = refl; greets = refl; lost = λ loss lost. lost_said loss m t lost }
  | Err e ↦ record { on = refl; replies = refl; asks = refl; greets = refl; lost = λ loss lost. lost_refused loss _ t lost }
]

hears_says : (fs : List Frame) (t : Trail) → SaysOnly (hears fs t) t
hears_says [] t = says_nothing t
hears_says (f ∷ fs) t = says_more t (item_of f ∷ t) (hears fs (item_of f ∷ t)) (item_says f t) (hears_says fs (item_of f ∷ t))

fault_says : (o : Option FrameFault) (t : Trail) → SaysOnly (hears_fault o t) t
fault_says None t = says_nothing t
fault_says (Some fault) t = record { on = refl; replies = refl; asks = refl; greets = refl; lost = λ loss lost. lost_refused loss _ t lost }

pub heard_says : (piece : List ℕ) (part : Part) → SaysOnly (heard_part piece part).trail part.trail
heard_says piece part =
    let r = read_stream (part.waits ++ piece) in
    says_more part.trail (hears r.frames part.trail) (hears_fault r.fault (hears r.frames part.trail)) (hears_says r.frames part.trail) (fault_says r.fault (hears r.frames part.trail))

pub heard_connected : (piece : List ℕ) (part : Part) → is_connected (heard_part piece part).trail ≡ is_connected part.trail
heard_connected piece part = (heard_says piece part).on

-- a piece that a peer sends is its own part alone
got_here : (p : PeerNo) (piece : List ℕ) (part : Part) → went_on (Took (Got p piece)) p.0 part ≡ heard_part piece part
got_here p piece part = grind (arith, common_steps)

pub got_others : (p : PeerNo) (piece : List ℕ) (q : ℕ) (part : Part) → q ≢ p.0 → went_on (Took (Got p piece)) q part ≡ part
got_others p piece q part ne = grind (arith, common_steps)

-- a place that isn't connected fits whatever its peer still says
deaf_fits : (loss : Loss) (p : PeerNo) (piece : List ℕ) (q : ℕ) (part : Part) → IsLost loss part.trail → IsLost loss (went_on (Took (Got p piece)) q part).trail
deaf_fits loss p piece q part lost = elim (cases_eq q p.0) [
  | inl same ↦ subst (λ k. IsLost loss (went_on (Took (Got p piece)) k part).trail) (sym same)
      (subst (λ (x : Part). IsLost loss x.trail) (sym (got_here p piece part)) ((heard_says piece part).lost loss lost))
  | inr other ↦ subst (λ (x : Part). IsLost loss x.trail) (sym (got_others p piece q part other)) lost
]

got_fits : (place : Place) (p : PeerNo) (piece : List ℕ) (q : ℕ) (part : Part) → (q ≡ p.0 → (end : Loss) × (place ≡ Lost end)) → Fits place part → Fits place (went_on (Took (Got p piece)) q part)
got_fits (Here peer) p piece q part lost fits = elim (cases_eq q p.0) [
  | inl same ↦ absurd (let is = (lost same).1 in cc)
  | inr other ↦ subst (λ (x : Part). Keeps peer x) (sym (got_others p piece q part other)) fits
]
got_fits (Lost end) p piece q part lost fits = deaf_fits end p piece q part fits

deaf_goes : {rule : Rule} (places : List Place) (acts : List Act) (log : Log) (p : PeerNo) (piece : List ℕ) (end : Loss)
    → acts ≡ [] → get_or places p.0 nobody ≡ Lost end → PlacesStand places log → Goes rule places acts (Took (Got p piece) ∷ log)
deaf_goes places acts log p piece end none lost stand =
    goes_start places acts (Took (Got p piece) ∷ log) none (stand_same places log (Took (Got p piece)) stand
    (λ q fits. got_fits (get_or places q nobody) p piece q (part_of log q) (λ same. (end, ap (λ k. get_or places k nobody) same ∙ lost)) fits) refl
    (λ q omitted. omitted) (λ q omitted. omitted))

deaf_tracks : (places : List Place) (acts : List Act) (log : Log) (p : PeerNo) (piece : List ℕ) (end : Loss) (seen : Seen)
    → acts ≡ [] → get_or places p.0 nobody ≡ Lost end → PlacesStand places log → Tracks seen log → Tracks seen (after acts (Took (Got p piece) ∷ log))
deaf_tracks places acts log p piece end seen none lost stand tracks =
    let fits : IsLost end (trail log p.0) = subst (λ (x : Place). Fits x (part_of log p.0)) lost (stand.each p.0) in
    subst (λ (xs : List Act). Tracks seen (after xs (Took (Got p piece) ∷ log))) (sym none) (tracks_deaf seen p piece log fits.off tracks)

-- replies that are sent one after another
abbrev pub sends : PeerNo → List Msg → List Act
sends p rs = map (λ (m : Msg). Send p m) rs

abbrev pub asked_all : List Msg → Part → Part
asked_all [] part = part
asked_all (r ∷ rs) part = asked_all rs (with_item (Asked r) part)

-- replies claim nothing
pub claims_asked : (rs : List Msg) (part : Part) → claims (counted (asked_all rs part).trail) ≡ claims
    (counted part.trail)
claims_asked [] part = refl
claims_asked (r ∷ rs) part = claims_asked rs (with_item (Asked r) part)

pub record RepliesDone (rule : Rule) (p : PeerNo) (rs : List Msg) (log : Log) : Type 0 where
  pub allowed : Allowed rule (sends p rs) log
  pub here : part_of (after (sends p rs) log) p.0 ≡ asked_all rs (part_of log p.0)
  pub others : (q : ℕ) → q ≢ p.0 → part_of (after (sends p rs) log) q ≡ part_of log q
  pub count : (tally_of (after (sends p rs) log)).dials ≡ (tally_of log).dials

abbrev pub AreSendable : List Msg → Type 0
AreSendable [] = Unit {0}
AreSendable (r ∷ rs) = IsSendable r × AreSendable rs

-- a reply is a verack or a pong
by_reply : (P : Msg → Type 0) → P Verack → ((number : ℕ) → P (Pong number)) → (r : Msg) → IsReply r → P r
by_reply P verack pong Verack is = verack
by_reply P verack pong (Pong number) is = pong number
by_reply P verack pong m is = absurd is

as_itself : (r : Msg) → IsReply r → as_reply r ≡ r ∷ []
as_itself r is = by_reply (λ (m : Msg). as_reply m ≡ m ∷ []) refl (λ number. refl) r is

-- what is owed to the words that count is what was sent, and then these; and more besides
abbrev AreDue : List Msg → Trail → Type 0
AreDue rs t = replies_owed (counted t) ≡ replies_sent t ++ rs

abbrev pub AreDueFirst : List Msg → List Msg → Trail → Type 0
AreDueFirst rs more t = replies_owed (counted t) ≡ replies_sent t ++ (rs ++ more)

due_all : (rs : List Msg) (t : Trail) → AreDue rs t → AreDueFirst rs [] t
due_all rs t due = due ∙ ap (λ (xs : List Msg). replies_sent t ++ xs) (sym (append-nil rs))

reply_sent : (mode : Mode) (r : Msg) (log : Log) (p : ℕ) → IsReply r → is_connected (trail log p) ≡ true → has_version (trail log p) ≡ true → IsNextReply (trail log p) r → MaySendIn mode log p r
reply_sent mode r log p is on over =
    by_reply (λ (m : Msg). IsNextReply (trail log p) m → MaySendIn mode log p m) (λ next. record { of_its_part = (on, over, next); wanted = tt; alone = tt }) (λ number next. record { of_its_part = (on, over, next); wanted = tt; alone = tt }) r is

-- once the first of them is sent
due_next : (r : Msg) (rs more : List Msg) (before after : Part) → IsReply r → after ≡ with_item (Asked r) before → AreDueFirst (r ∷ rs) more before.trail → AreDueFirst rs more after.trail
due_next r rs more before after is here due =
    ap (λ (x : Part). replies_owed (counted x.trail)) here ∙ due ∙ sym (append_assoc (replies_sent before.trail) (r ∷ []) (rs ++ more))
    ∙ ap (λ (xs : List Msg). (replies_sent before.trail ++ xs) ++ (rs ++ more)) (sym (as_itself r is)) ∙ sym (ap (λ (x : Part). replies_sent x.trail ++ (rs ++ more)) here)

reply_needed : (rule : Rule) (r : Msg) (log : Log) (p : ℕ) → IsReply r → IsCalledFor rule log p r
reply_needed rule r log p is = by_reply (IsCalledFor rule log p) tt (λ number. tt) r is

pub replies_done : {rule : Rule} (p : PeerNo) (rs more : List Msg) (log : Log) → p.0 ≤ (tally_of log).dials → AllByRecursion IsReply rs → AreSendable rs
    → is_connected (trail log p.0) ≡ true → (rs ≡ []) ⊎ (has_version (trail log p.0) ≡ true) → AreDueFirst rs more (trail log p.0) → RepliesDone rule p rs log
replies_done p [] more log number are sendable on over due = record { allowed = tt; here = refl; others = λ q ne. refl; count = refl }
replies_done p (r ∷ rs) more log number are sendable on (inl none) due = absurd (let e : r ∷ rs ≡ [] = none in cc)
replies_done {rule = rule} p (r ∷ rs) more log number are sendable on (inr over) due =
    let next = Sent p (bytes_of r) ∷ log in
    let here : part_of next p.0 ≡ with_item (Asked r) (part_of log p.0) = sent_here p r (part_of log p.0) sendable.0 in
    let rest = replies_done {rule = rule} p rs more next number are.1 sendable.1 (ap (λ (x : Part). is_connected x.trail) here ∙ on) (inr (ap (λ (x : Part). has_version x.trail) here ∙ over))
    (due_next r rs more (part_of log p.0) (part_of next p.0) are.0 here due) in
    record {
      allowed = ((number, sendable.0, reply_sent rule.mode r log p.0 are.0 on over (rs ++ more, due), reply_needed rule r log p.0 are.0), rest.allowed);
      here = rest.here ∙ ap (asked_all rs) here;
      others = λ q ne. rest.others q ne ∙ sent_others p (bytes_of r) q (part_of log q) ne;
      count = rest.count;
    }

-- what replies leave as it is
pub record Unchanged (rs : List Msg) (part : Part) : Type 0 where
  pub waits : (asked_all rs part).waits ≡ part.waits
  pub on : is_connected (asked_all rs part).trail ≡ is_connected part.trail
  pub first : verdict (asked_all rs part).trail ≡ verdict part.trail
  pub owes : replies_owed (asked_all rs part).trail ≡ replies_owed part.trail
  pub replies : replies_sent (asked_all rs part).trail ≡ replies_sent part.trail ++ rs
  pub greets : IsGreetedBy (messages_asked part.trail) → IsGreetedBy (messages_asked (asked_all rs part).trail)
  pub holds : (peer : Peer) → Holds peer part.trail → Holds peer (asked_all rs part).trail

holds_asked : (r : Msg) (peer : Peer) (t : Trail) → IsReply r → Holds peer t → Holds peer (Asked r ∷ t)
holds_asked r peer t is h = by_reply (λ (m : Msg). Holds peer (Asked m ∷ t))
    (record { on = h.on; called = h.called; meeting = h.meeting; open_one = h.open_one; hearing = h.hearing; numbered = (let n = h.numbered in omega (arith, n)); clean = h.clean; orderly = h.orderly; acquainted = h.acquainted })
    (λ number. record { on = h.on; called = h.called; meeting = h.meeting; open_one = h.open_one; hearing = h.hearing; numbered = (let n = h.numbered in omega (arith, n)); clean = h.clean; orderly = h.orderly; acquainted = h.acquainted }) r is

no_version : (r : Msg) → IsReply r → is_version r ≡ false
no_version r is = by_reply (λ (m : Msg). is_version m ≡ false) refl (λ number. refl) r is

pub unchanged : (rs : List Msg) (part : Part) → AllByRecursion IsReply rs → Unchanged rs part
unchanged [] part are = record { waits = refl; on = refl; first = refl; owes = refl; replies = sym (append-nil (replies_sent part.trail)); greets = λ is_greeted. is_greeted; holds = λ peer h. h }
unchanged (r ∷ rs) part are =
    let more = unchanged rs (with_item (Asked r) part) are.1 in
    record {
      waits = more.waits;
      on = more.on;
      first = more.first;
      owes = more.owes;
      replies = more.replies ∙ ap (λ (xs : List Msg). (replies_sent part.trail ++ xs) ++ rs) (as_itself r are.0) ∙ append_assoc (replies_sent part.trail) (r ∷ []) rs;
      greets = λ is_greeted. more.greets (greeted_more (messages_asked part.trail) r (no_version r are.0) is_greeted);
      holds = λ peer h. more.holds peer (holds_asked r peer part.trail are.0 h);
    }

pub asked_replied : (rs : List Msg) (part : Part) → AllByRecursion IsReply rs → replies_sent (asked_all rs part).trail ≡ replies_sent part.trail ++ rs
asked_replied rs part are = (unchanged rs part are).replies

-- what is sent changes nothing of what counts of its words
pub asked_owes : (rs : List Msg) (part : Part) → replies_owed (counted part.trail) ≡ replies_owed (counted (asked_all rs part).trail)
asked_owes [] part = refl
asked_owes (r ∷ rs) part = asked_owes rs (with_item (Asked r) part)

-- replies and what they leave, after a piece
pub heard_log : (p : PeerNo) (piece : List ℕ) (log : Log) → part_of (Took (Got p piece) ∷ log) p.0 ≡ heard_part piece (part_of log p.0)
heard_log p piece log = got_here p piece (part_of log p.0)

pub met_by : (p : PeerNo) (rs : List Msg) (part end : Part) → part ≡ end → (rs ≡ []) ⊎ (has_version end.trail ≡ true) → (rs ≡ []) ⊎ (has_version part.trail ≡ true)
met_by p rs part end e (inl none) = inl none
met_by p rs part end e (inr over) = inr (ap (λ (x : Part). has_version x.trail) e ∙ over)

-- the replies to a piece, by what is owed to it
due_by : (piece : List ℕ) (rs : List Msg) (start part : Part) → part ≡ heard_part piece start → IsAnswered start.trail → replies_owed (counted (heard_part piece start).trail) ≡ replies_owed start.trail ++ rs → AreDue rs part.trail
due_by piece rs start part here answered owes =
    ap (λ (x : Part). replies_owed (counted x.trail)) here ∙ owes ∙ ap (λ (xs : List Msg). xs ++ rs) (sym answered.replies ∙ sym (heard_says piece start).replies)
    ∙ sym (ap (λ (x : Part). replies_sent x.trail ++ rs) here)

pub sendable_by : (p : PeerNo) (rs : List Msg) → All IsDoable (sends p rs) → AreSendable rs
sendable_by p [] h = tt
sendable_by p (r ∷ rs) h = ((h 0 (Send p r) (omega arith)).1, sendable_by p rs (λ k d lt. h (suc k) d (omega arith)))

-- a place that is set twice, or to what it is
pub set_set : (places : List Place) (i : ℕ) (a b : Place) → set (set places i a) i b ≡ set places i b
set_set [] i a b = refl
set_set (x ∷ places) zero a b = refl
set_set (x ∷ places) (suc i) a b = ap (λ (xs : List Place). x ∷ xs) (set_set places i a b)

-- who has omitted something after replies had before
pub unomitted_sends : (p : PeerNo) (rs : List Msg) (log : Log) (q : ℕ) → HasOmitted (after (sends p rs) log) q → HasOmitted log q
unomitted_sends p [] log q is = is
unomitted_sends p (r ∷ rs) log q is = unomitted_sends p rs (Sent p (bytes_of r) ∷ log) q is

-- a piece of a connected peer, all of which is taken
whole_at : {rule : Rule} (places : List Place) (log : Log) (p : PeerNo) (piece : List ℕ) (peer : Peer) (seen now : Seen) (acts : List Act)
    → p.0 < length places → PlacesStand places log → is_connected (trail log p.0) ≡ true → IsAnswered (trail log p.0)
    → (whole : HeardWhole p peer seen now [] acts (part_of log p.0) (heard_part piece (part_of log p.0))) → AreSendable whole.replies
    → Goes rule (set places p.0 (Here peer)) acts (Took (Got p piece) ∷ log)
whole_at {rule = rule} places log p piece peer seen now acts lt stand on answered whole sendable =
    let next = Took (Got p piece) ∷ log in
    let rs = whole.replies in
    let here = heard_log p piece log in
    let part = heard_part piece (part_of log p.0) in
    let up : is_connected (trail next p.0) ≡ true = ap (λ (x : Part). is_connected x.trail) here ∙ heard_connected piece (part_of log p.0) ∙ on in
    let done = replies_done {rule = rule} p rs [] next (number_within places log p.0 stand lt) whole.are.each sendable up (met_by p rs (part_of next p.0) part here whole.are.after_version)
    (due_all rs (trail next p.0) (due_by piece rs (part_of log p.0) (part_of next p.0) here answered ((same_use part.trail whole.holds.on whole.holds.clean).owing ∙ whole.owes))) in
    let same = unchanged rs part whole.are.each in
    let at_end : part_of (after (sends p rs) next) p.0 ≡ asked_all rs part = done.here ∙ ap (asked_all rs) here in
    let keeps : Keeps peer (asked_all rs part) = record {
      holds = same.holds peer whole.holds;
      waits = whole.waits ∙ sym same.waits;
      answered = record {
        greeted = same.greets (subst IsGreetedBy (sym (heard_says piece (part_of log p.0)).asks) answered.greeted);
        replies = same.replies ∙ ap (λ (xs : List Msg). xs ++ rs) ((heard_says piece (part_of log p.0)).replies ∙ answered.replies) ∙ sym whole.owes ∙ sym same.owes;
      };
    } in
    let mine : Fits (Here peer) (part_of (after (sends p rs) next) p.0) = subst (λ (x : Part). Keeps peer x) (sym at_end) keeps in
    subst (λ (xs : List Act). Goes rule (set places p.0 (Here peer)) xs next) (sym whole.acts) (record {
      stand = record {
        count = grind (arith, common_steps, stand.count, done.count);
        omitted = omitted_set places p.0 (Here peer) log (after (sends p rs) next) lt stand.omitted (λ is. cc)
            (λ q other. omitted_acts (sends p rs) next q);
        named = named_set places p.0 (Here peer) log (after (sends p rs) next) lt stand.named
            (λ right. (right_before (sends p rs) next right).1)
            (λ right is. absurd (connected_unomitted log p.0 on (unomitted_sends p rs next p.0 is)))
            (λ q other. unomitted_sends p rs next q);
        each = λ q. elim (cases_eq q p.0) [
          | inl is ↦ subst (λ k. Fits (get_or (set places p.0 (Here peer)) k nobody) (part_of (after (sends p rs) next) k)) (sym is)
              (subst (λ x. Fits x (part_of (after (sends p rs) next) p.0)) (sym (set_is places p.0 (Here peer) lt)) mine)
          | inr other ↦ subst (λ x. Fits x (part_of (after (sends p rs) next) q)) (grind (arith, common_steps))
              (subst (λ t. Fits (get_or places q nobody) t) (sym (done.others q other ∙ got_others p piece q (part_of log q) other)) (stand.each q))
        ];
      };
      allowed = done.allowed;
    })

-- what a connected peer's place holds of its part, and the chain that is kept of it
pub place_keeps : (places : List Place) (log : Log) (p : PeerNo) (peer : Peer) → get_or places p.0 nobody ≡ Here peer → PlacesStand places log → Keeps peer (part_of log p.0)
place_keeps places log p peer here stand = subst (λ (x : Place). Fits x (part_of log p.0)) here (stand.each p.0)

-- what is kept of a connected peer's chain and claims
pub follows_is : (seen : Seen) (log : Log) (p : ℕ) → Tracks seen log → is_connected (trail log p) ≡ true → verdict (trail log p) ≡ None → Follows seen p (trail log p)
follows_is seen log p tracks on clean =
    let t = trail log p in
    record {
      chain = tracks.kept p ∙ ap (λ (b : Bool). if b then Some (own t) else None) on;
      claims = λ block. tracks.claimed p block ∙ ap (λ (b : Bool). (if b then claims (counted t) else no_claims) block) on ∙ ap (λ (c : Table). c block) (same_use t on clean).claiming;
      opens = tracks.opened p;
    }

-- what is heard of a piece, whatever p's part is
abbrev pub HearsWhole : PeerNo → List ℕ → Peer → Peer → Seen → Seen → List Act → List Act → Type 0
HearsWhole p piece old peer seen now before acts =
    (part : Part) → Holds old part.trail → old.framer ≡ part.waits → Follows seen p.0 part.trail → HeardWhole p peer seen now before acts part (heard_part piece part)

abbrev pub HearsFault : PeerNo → List ℕ → Peer → Seen → Seen → List Act → List Act → Cause → Type 0
HearsFault p piece old seen now before acts cause =
    (part : Part) → Holds old part.trail → old.framer ≡ part.waits → Follows seen p.0 part.trail → HeardFault p seen now before acts part (heard_part piece part) cause

abbrev pub HearsExposed : PeerNo → List ℕ → Peer → Seen → Seen → List Act → List Act → Hash → Hash → Type 0
HearsExposed p piece old seen now before acts block filter =
    (part : Part) → Holds old part.trail → old.framer ≡ part.waits → Follows seen p.0 part.trail → HeardExposed p seen now before acts part (heard_part piece part) block filter

whole_of : (places : List Place) (log : Log) (p : PeerNo) (piece : List ℕ) (old peer : Peer) (seen now : Seen) (before acts : List Act)
    → before ≡ [] → get_or places p.0 nobody ≡ Here old → PlacesStand places log → Tracks seen log
    → HearsWhole p piece old peer seen now before acts → HeardWhole p peer seen now [] acts (part_of log p.0) (heard_part piece (part_of log p.0))
whole_of places log p piece old peer seen now before acts none here stand tracks is_heard_out =
    let keeps = place_keeps places log p old here stand in
    subst (λ (xs : List Act). HeardWhole p peer seen now xs acts (part_of log p.0) (heard_part piece (part_of log p.0))) none
    (is_heard_out (part_of log p.0) keeps.holds keeps.waits (follows_is seen log p.0 tracks keeps.holds.on keeps.holds.clean))

heard_goes : {rule : Rule} (places : List Place) (log : Log) (p : PeerNo) (piece : List ℕ) (old peer : Peer) (seen now : Seen) (before acts : List Act)
    → p.0 < length places → before ≡ [] → get_or places p.0 nobody ≡ Here old → PlacesStand places log → Tracks seen log
    → HearsWhole p piece old peer seen now before acts → All IsDoable acts
    → Goes rule (set places p.0 (Here peer)) acts (Took (Got p piece) ∷ log)
heard_goes places log p piece old peer seen now before acts lt none here stand tracks is_heard_out doable =
    let keeps = place_keeps places log p old here stand in
    let whole = whole_of places log p piece old peer seen now before acts none here stand tracks is_heard_out in
    whole_at places log p piece peer seen now acts lt stand keeps.holds.on keeps.answered whole (sendable_by p whole.replies (subst (All IsDoable) whole.acts doable))

-- a reply asks for nothing
reply_asks : (r : Msg) (t : Trail) → IsReply r → (filters_open (request (Asked r ∷ t)) ≡ filters_open (request t)) × (blocks_open (request (Asked r ∷ t)) ≡ blocks_open (request t))
reply_asks Verack t is = (refl, refl)
reply_asks (Pong number) t is = (refl, refl)
reply_asks r t is = absurd is

reply_only : (r : Msg) → IsReply r → IsNoQuestion (Some r)
reply_only Verack is = λ filter start stop e. cc
reply_only (Pong number) is = λ filter start stop e. cc
reply_only r is = absurd is

-- and changes nothing that is seen
pub sends_track : (p : PeerNo) (rs : List Msg) (s : Seen) (log : Log) → AllByRecursion IsReply rs → AreSendable rs → Tracks s log → Tracks s (after (sends p rs) log)
sends_track p [] s log are sendable tracks = tracks
sends_track p (r ∷ rs) s log are sendable tracks =
    let same = reply_asks r (trail log p.0) are.0 in
    sends_track p rs s (Sent p (bytes_of r) ∷ log) are.1 sendable.1 (tracks_sent s p (bytes_of r) r log (spelled_bytes r sendable.0) same.0 same.1 (reply_only r are.0) tracks)

-- a piece all of which was taken
whole_tracks : (places : List Place) (log : Log) (p : PeerNo) (piece : List ℕ) (old peer : Peer) (seen now : Seen) (before acts : List Act)
    → before ≡ [] → get_or places p.0 nobody ≡ Here old → PlacesStand places log → Tracks seen log
    → HearsWhole p piece old peer seen now before acts → All IsDoable acts → Tracks now (after acts (Took (Got p piece) ∷ log))
whole_tracks places log p piece old peer seen now before acts none here stand tracks is_heard_out doable =
    let whole = whole_of places log p piece old peer seen now before acts none here stand tracks is_heard_out in
    let sendable = sendable_by p whole.replies (subst (All IsDoable) whole.acts doable) in
    let next = Took (Got p piece) ∷ log in
    subst (λ (xs : List Act). Tracks now (after xs next)) (sym whole.acts) (sends_track p whole.replies now next whole.are.each sendable (tracks_heard p peer seen now [] acts piece log whole tracks))

-- a piece in which a frame deserves a cause: the peer is closed
fault_at : {rule : Rule} (places : List Place) (log : Log) (p : PeerNo) (piece : List ℕ) (cause : Cause) (seen now : Seen) (acts : List Act)
    → p.0 < length places → PlacesStand places log → is_connected (trail log p.0) ≡ true → IsAnswered (trail log p.0)
    → (fault : HeardFault p seen now [] acts (part_of log p.0) (heard_part piece (part_of log p.0)) cause) → AreSendable fault.replies
    → (part_of (after (sends p fault.replies) (Took (Got p piece) ∷ log)) p.0
    ≡ asked_all fault.replies (heard_part piece (part_of log p.0))
    → IsNamed (after (sends p fault.replies) (Took (Got p piece) ∷ log)) p.0 cause)
    → Goes rule (set places p.0 (Lost (ClosedFor cause))) (acts ++ Close p cause ∷ []) (Took (Got p piece) ∷ log)
fault_at {rule = rule} places log p piece cause seen now acts lt stand on answered fault sendable named =
    let next = Took (Got p piece) ∷ log in
    let rs = fault.replies in
    let here = heard_log p piece log in
    let part = heard_part piece (part_of log p.0) in
    let on_then : is_connected (trail next p.0) ≡ true = ap (λ (x : Part). is_connected x.trail) here ∙ heard_connected piece (part_of log p.0) ∙ on in
    let number = number_within places log p.0 stand lt in
    let done = replies_done {rule = rule} p rs [] next number fault.are.each sendable on_then (met_by p rs (part_of next p.0) part here fault.are.after_version)
    (due_all rs (trail next p.0) (due_by piece rs (part_of log p.0) (part_of next p.0) here answered fault.owes)) in
    let same = unchanged rs part fault.are.each in
    let later = after (sends p rs) next in
    let at_end : part_of later p.0 ≡ asked_all rs part = done.here ∙ ap (asked_all rs) here in
    let up : is_connected (trail later p.0) ≡ true = ap (λ (x : Part). is_connected x.trail) at_end ∙ same.on ∙ heard_connected piece (part_of log p.0) ∙ on in
    let guilty : verdict (trail later p.0) ≡ Some cause = ap (λ (x : Part). verdict x.trail) at_end ∙ same.first ∙ fault.first in
    let due = due_by piece rs (part_of log p.0) (part_of next p.0) here answered fault.owes in
    let replied_all : replies_sent (trail later p.0) ≡ replies_owed (counted (trail later p.0)) =
    ap (λ (x : Part). replies_sent x.trail) done.here ∙ asked_replied rs (part_of next p.0) fault.are.each ∙ sym due ∙ asked_owes rs (part_of next p.0) ∙ sym (ap (λ (x : Part). replies_owed (counted x.trail)) done.here) in
    let end = ClosedFor cause in
    let mine : IsLost end (part_of (Closed p ∷ later) p.0).trail =
    subst (λ (x : Part). IsLost end x.trail) (sym (closed_here p (part_of later p.0))) (shut_now (trail later p.0) cause up (inl (up, guilty))) in
    let count : p.0 ≤ (tally_of later).dials = omega (arith, number, done.count) in
    subst (λ (xs : List Act). Goes rule (set places p.0 (Lost end)) (xs ++ Close p cause ∷ []) next) (sym fault.acts) (record {
      stand = subst (PlacesStand (set places p.0 (Lost end))) (sym (after-append (sends p rs) (Close p cause) next)) (record {
        count = grind (arith, common_steps, stand.count, done.count);
        omitted = omitted_set places p.0 (Lost end) log (Closed p ∷ later) lt stand.omitted
            (λ is. (let omits : cause ≡ Omits = cc is in words_unnamed later p.0 (guilty ∙ ap Some omits)))
            (λ q other omitted. inr (omitted_acts (sends p rs) next q omitted));
        named = named_set places p.0 (Lost end) log (Closed p ∷ later) lt stand.named
            (λ right. (right_before (sends p rs) next right.1).1)
            (λ right is. elim is [
              | inl now ↦ ap (λ (c : Cause). Lost (ClosedFor c)) (named at_end right.1 now.1)
              | inr before ↦ absurd (connected_unomitted later p.0 up before)
            ])
            (λ q other is. unomitted_sends p rs next q (unomitted_close p later q other is));
        each = λ q. elim (cases_eq q p.0) [
          | inl is ↦ subst (λ k. Fits (get_or (set places p.0 (Lost end)) k nobody) (part_of (Closed p ∷ later) k)) (sym is)
              (subst (λ x. Fits x (part_of (Closed p ∷ later) p.0)) (sym (set_is places p.0 (Lost end) lt)) mine)
          | inr other ↦ subst (λ x. Fits x (part_of (Closed p ∷ later) q)) (grind (arith, common_steps))
              (subst (λ t. Fits (get_or places q nobody) t) (sym (closed_others p q (part_of later q) other ∙ done.others q other ∙ got_others p piece q (part_of log q) other)) (stand.each q))
        ];
      });
      allowed = allowed-append rule (sends p rs) (Close p cause) next done.allowed (count, inl (inl (up, guilty)), inl (λ sound. replied_all), named at_end);
    })

fault_of : (places : List Place) (log : Log) (p : PeerNo) (piece : List ℕ) (old : Peer) (cause : Cause) (seen now : Seen) (before acts : List Act)
    → before ≡ [] → get_or places p.0 nobody ≡ Here old → PlacesStand places log → Tracks seen log
    → HearsFault p piece old seen now before acts cause → HeardFault p seen now [] acts (part_of log p.0) (heard_part piece (part_of log p.0)) cause
fault_of places log p piece old cause seen now before acts none here stand tracks is_heard_out =
    let keeps = place_keeps places log p old here stand in
    subst (λ (xs : List Act). HeardFault p seen now xs acts (part_of log p.0) (heard_part piece (part_of log p.0)) cause) none
    (is_heard_out (part_of log p.0) keeps.holds keeps.waits (follows_is seen log p.0 tracks keeps.holds.on keeps.holds.clean))

-- its claims are no omissions: none of them that counts was found to lack anything
fault_named : (log : Log) (p : PeerNo) (piece : List ℕ) (cause : Cause) (seen now last : Seen) (acts : List Act)
    → (fault : HeardFault p seen now [] acts (part_of log p.0) (heard_part piece (part_of log p.0)) cause)
    → AreSendable fault.replies → IsPut now last p.0 None no_claims → Tracks seen log → IsUnexposed seen
    → part_of (after (sends p fault.replies) (Took (Got p piece) ∷ log)) p.0
    ≡ asked_all fault.replies (heard_part piece (part_of log p.0))
    → IsNamed (after (sends p fault.replies) (Took (Got p piece) ∷ log)) p.0 cause
fault_named log p piece cause seen now last acts fault sendable put tracks unexposed here right omits =
    let next = Took (Got p piece) ∷ log in
    let later = after (sends p fault.replies) next in
    let end = heard_part piece (part_of log p.0) in
    let read = tracks_faulty p seen now last [] acts piece log cause fault put tracks in
    let tracked = sends_track p fault.replies read.0 next fault.are.each sendable read.1.0 in
    let mine = claimed_by later p.0 omits in
    let claim : claims (counted end.trail) omits.block ≡ Some mine.0 =
    sym (ap (λ (x : Part). claims (counted x.trail) omits.block) here
    ∙ ap (λ (c : Table). c omits.block) (claims_asked fault.replies end)) ∙ mine.1 in
    let told : now.trials.told omits.block mine.0.hash.0 ≡ Some true =
    ap (λ (hash : Hash32). now.trials.told omits.block hash.0) mine.2
    ∙ sym (put.stays.trials.told omits.block omits.hash.0) ∙ read.1.1.stays.trials.told omits.block omits.hash.0
    ∙ omitting_told read.0 later p.0 tracked right omits in
    absurd (fault.spared unexposed omits.block mine.0 claim told)

faulty_goes : {rule : Rule} (places : List Place) (log : Log) (p : PeerNo) (piece : List ℕ) (old : Peer) (cause : Cause) (seen now last : Seen) (before acts : List Act)
    → p.0 < length places → before ≡ [] → get_or places p.0 nobody ≡ Here old → PlacesStand places log → Tracks seen log
    → HearsFault p piece old seen now before acts cause → All IsDoable acts → IsPut now last p.0 None no_claims → IsUnexposed seen
    → Goes rule (set places p.0 (Lost (ClosedFor cause))) (acts ++ Close p cause ∷ []) (Took (Got p piece) ∷ log)
faulty_goes places log p piece old cause seen now last before acts lt none here stand tracks is_heard_out doable put unexposed =
    let keeps = place_keeps places log p old here stand in
    let fault = fault_of places log p piece old cause seen now before acts none here stand tracks is_heard_out in
    let sendable = sendable_by p fault.replies (subst (All IsDoable) fault.acts doable) in
    fault_at places log p piece cause seen now acts lt stand keeps.holds.on keeps.answered fault sendable
    (fault_named log p piece cause seen now last acts fault sendable put tracks unexposed)

-- a piece in which a frame deserves a cause, and p's chain and claims given up
faulty_tracks : (places : List Place) (log : Log) (p : PeerNo) (piece : List ℕ) (old : Peer) (cause : Cause) (seen now last : Seen) (before acts : List Act)
    → before ≡ [] → get_or places p.0 nobody ≡ Here old → PlacesStand places log → Tracks seen log
    → HearsFault p piece old seen now before acts cause → All IsDoable acts → IsPut now last p.0 None no_claims → Tracks last (after (acts ++ Close p cause ∷ []) (Took (Got p piece) ∷ log))
faulty_tracks places log p piece old cause seen now last before acts none here stand tracks is_heard_out doable put =
    let fault = fault_of places log p piece old cause seen now before acts none here stand tracks is_heard_out in
    let next = Took (Got p piece) ∷ log in
    let rs = fault.replies in
    let sendable = sendable_by p rs (subst (All IsDoable) fault.acts doable) in
    let read = tracks_faulty p seen now last [] acts piece log cause fault put tracks in
    subst (λ (xs : List Act). Tracks last (after (xs ++ Close p cause ∷ []) next)) (sym fault.acts)
    (subst (λ (x : Log). Tracks last x) (sym (after-append (sends p rs) (Close p cause) next)) (tracks_closed read.0 last p (after (sends p rs) next) read.1.1 (sends_track p rs read.0 next fault.are.each sendable read.1.0)))

-- a failed send cuts a peer off
cut_tracks : (log cut : Log) (p : PeerNo) (seen last : Seen) → Tracks seen log → CutFor p log cut → IsPut seen last p.0 None no_claims → Tracks last (Closed p ∷ cut)
cut_tracks log cut p seen last tracks is put =
    let lost : Tracks last cut = tracks_lost seen last p log cut put is.off is.others is.brought is.gave (is.tests seen.trials tracks.trials) tracks in
    tracks_closed last last p cut (put_off last cut p.0 is.off lost) lost

-- what becomes of nobody being exposed, whatever p's part is
abbrev pub HearsUnexposed : PeerNo → Peer → Seen → Type 0 → Type 0
HearsUnexposed p old seen after = (part : Part) → Holds old part.trail → old.framer ≡ part.waits → Follows seen p.0 part.trail → IsUnexposed seen → after

pub unexposed_after : (places : List Place) (log : Log) (p : PeerNo) (old : Peer) (seen : Seen) (after : Type 0) → get_or places p.0 nobody ≡ Here old → PlacesStand places log → Tracks seen log
    → HearsUnexposed p old seen after → IsUnexposed seen → after
unexposed_after places log p old seen after here stand tracks unexposes none =
    let keeps = place_keeps places log p old here stand in
    unexposes (part_of log p.0) keeps.holds keeps.waits (follows_is seen log p.0 tracks keeps.holds.on keeps.holds.clean) none

-- ---- deliveries, as steps

-- a piece of a peer that isn't connected
pub deaf_moves : (mode : Mode) (d : Desk) (p : PeerNo) (piece : List ℕ) (end : Loss) → d.acts ≡ [] → IsInOrder d → get_or d.places p.0 nobody ≡ Lost end → Moves mode (Taking (Got p piece)) d d
deaf_moves mode d p piece end none order lost = stay_moves order (taken (λ log stood. record {
  goes = deaf_goes d.places d.acts log p piece end none lost (start_places d log none stood);
  tracks = deaf_tracks d.places d.acts log p piece end d.seen none lost (start_places d log none stood) (start_tracks d log none stood);
  unexposed = stood.unexposed;
}))

-- a piece all of which is taken
pub heard_moves : (mode : Mode) (d : Desk) (p : PeerNo) (piece : List ℕ) (old peer : Peer) (now : Seen) (acts : List Act)
    → p.0 < length d.places → d.acts ≡ [] → IsInOrder d → get_or d.places p.0 nobody ≡ Here old → HearsWhole p piece old peer d.seen now d.acts acts
    → HearsUnexposed p old d.seen (IsUnexposed now) → IsChanged d.seen now p.0 (Here peer) → All IsDoable acts → (calm old ≡ true → calm peer ≡ true)
    → Moves mode (Taking (Got p piece)) d (record { places = set d.places p.0 (Here peer); seen = now; acts = acts })
heard_moves mode d p piece old peer now acts lt none order here is_heard_out unexposes changed doable calms =
    set_moves p.0 (Here peer) lt order changed (extends_none d.acts acts none) (λ all. doable) (λ was. calms (subst (λ (y : Place). is_calm y ≡ true) here was))
    (taken (λ log stood. record {
      goes = goes_watch changed.watch (heard_goes d.places log p piece old peer d.seen now d.acts acts lt none here (start_places d log none stood) (start_tracks d log none stood) is_heard_out doable);
      tracks = whole_tracks d.places log p piece old peer d.seen now d.acts acts none here (start_places d log none stood) (start_tracks d log none stood) is_heard_out doable;
      unexposed = unexposed_after d.places log p old d.seen (IsUnexposed now) here (start_places d log none stood) (start_tracks d log none stood) unexposes stood.unexposed;
    }))

-- a piece in which a frame deserves a cause, for which its peer is closed and forgotten
pub faulty_moves : (mode : Mode) (d : Desk) (p : PeerNo) (piece : List ℕ) (old : Peer) (cause : Cause) (now last : Seen) (acts : List Act)
    → p.0 < length d.places → d.acts ≡ [] → IsInOrder d → get_or d.places p.0 nobody ≡ Here old → HearsFault p piece old d.seen now d.acts acts cause → HearsUnexposed p old d.seen (IsUnexposed now)
    → ((q : ℕ) → q ≢ p.0 → now.chains q ≡ d.seen.chains q) → ((q : ℕ) → q ≢ p.0 → (block : Hash) → now.claims q block ≡ d.seen.claims q block) → now.watch ≡ d.seen.watch → All IsDoable acts
    → IsPut now last p.0 None no_claims
    → Moves mode (Taking (Got p piece)) d (record { places = set d.places p.0 (Lost (ClosedFor cause)); seen = last; acts = acts ++ Close p cause ∷ [] })
faulty_moves mode d p piece old cause now last acts lt none order here is_heard_out unexposes others claims watch doable put =
    set_moves p.0 (Lost (ClosedFor cause)) lt order (record {
      watch = put.stays.watch ∙ watch;
      others = λ q other. put.others q other ∙ others q other;
      here = sym (ap is_some put.here);
      claims = λ q other block. put.claims_others q other block ∙ claims q other block;
      right = tt;
    }) (extends_none d.acts (acts ++ Close p cause ∷ []) none)
    (λ all. All-push IsDoable acts (Close p cause) doable (omega (arith, lt, order.few))) (λ was. refl)
    (taken (λ log stood. record {
      goes = goes_watch (put.stays.watch ∙ watch) (faulty_goes d.places log p piece old cause d.seen now last d.acts acts lt none here (start_places d log none stood) (start_tracks d log none stood) is_heard_out doable put stood.unexposed);
      tracks = faulty_tracks d.places log p piece old cause d.seen now last d.acts acts none here (start_places d log none stood) (start_tracks d log none stood) is_heard_out doable put;
      unexposed = unexposed_put now last p.0 put
          (unexposed_after d.places log p old d.seen (IsUnexposed now) here (start_places d log none stood) (start_tracks d log none stood) unexposes stood.unexposed);
    }))

-- what is sent for a piece are replies, and then its peer may be closed
pub whole_told : (mode : Mode) (d : Desk) (p : PeerNo) (piece : List ℕ) (old peer : Peer) (now : Seen) (acts : List Act) (log : Log)
    → d.acts ≡ [] → get_or d.places p.0 nobody ≡ Here old → HearsWhole p piece old peer d.seen now d.acts acts
    → Stands mode d log → AreTold acts
whole_told mode d p piece old peer now acts log none here is_heard_out stood =
    let whole = whole_of d.places log p piece old peer d.seen now d.acts acts none here
    (start_places d log none stood) (start_tracks d log none stood) is_heard_out in
    told_replies p whole.replies acts whole.are.each whole.acts

pub fault_told : (mode : Mode) (d : Desk) (p : PeerNo) (piece : List ℕ) (old : Peer) (cause : Cause) (now : Seen) (acts : List Act)
    (log : Log) → d.acts ≡ [] → get_or d.places p.0 nobody ≡ Here old
    → HearsFault p piece old d.seen now d.acts acts cause → Stands mode d log → AreTold (acts ++ Close p cause ∷ [])
fault_told mode d p piece old cause now acts log none here is_heard_out stood =
    let fault = fault_of d.places log p piece old cause d.seen now d.acts acts none here
    (start_places d log none stood) (start_tracks d log none stood) is_heard_out in
    told_fault p cause fault.replies acts fault.are.each fault.acts

-- a peer has gone: one that is connected, or another
gone_here : (p : PeerNo) (part : Part) → went_on (Took (Gone p)) p.0 part ≡ with_item (LostItem mark.Gone) part
gone_here p part = grind (arith, common_steps)

gone_others : (p : PeerNo) (q : ℕ) (part : Part) → q ≢ p.0 → went_on (Took (Gone p)) q part ≡ part
gone_others p q part ne = grind (arith, common_steps)

gone_fits : (place : Place) (p : PeerNo) (q : ℕ) (part : Part) → (q ≡ p.0 → is_here place ≡ false) → Fits place part → Fits place (went_on (Took (Gone p)) q part)
gone_fits (Here peer) p q part away fits = elim (cases_eq q p.0) [
  | inl same ↦ absurd (false≢true (sym (away same)))
  | inr other ↦ subst (Keeps peer) (sym (gone_others p q part other)) fits
]
gone_fits (Lost end) p q part away lost = elim (cases_eq q p.0) [
  | inl same ↦ subst (λ (k : ℕ). IsLost end (went_on (Took (Gone p)) k part).trail) (sym same)
      (subst (λ (x : Part). IsLost end x.trail) (sym (gone_here p part)) (lost_again end mark.Gone part.trail refl lost))
  | inr other ↦ subst (λ (x : Part). IsLost end x.trail) (sym (gone_others p q part other)) lost
]

pub gone_moves : (mode : Mode) (d : Desk) (p : PeerNo) (after : Seen) → d.acts ≡ [] → p.0 < length d.places → IsInOrder d → is_here (get_or d.places p.0 nobody) ≡ true → IsPut d.seen after p.0 None no_claims
    → Moves mode (Taking (Gone p)) d (record { places = set d.places p.0 (Lost HasGone); seen = after; acts = d.acts })
gone_moves mode d p after none lt order here put =
    set_moves p.0 (Lost HasGone) lt order (is_lost d.seen after p.0 HasGone put) (extends_self d.acts) (λ all. all) (λ was. refl)
    (taken (λ log stood. stands_start (set d.places p.0 (Lost HasGone)) after d.acts (Took (Gone p) ∷ log) none
    (stand_at d.places log p.0 (Lost HasGone) (Took (Gone p)) lt (start_places d log none stood) (λ q other. gone_others p q (part_of log q) other) refl
    (subst (λ (x : Part). IsLost HasGone x.trail) (sym (gone_here p (part_of log p.0)))
    (goes_now (trail log p.0) (here_on (get_or d.places p.0 nobody) (part_of log p.0) ((start_places d log none stood).each p.0) ∙ here)))
    (λ is. cc) (λ q omitted. omitted)
    (λ right omitted. absurd (connected_unomitted log p.0
    (here_on (get_or d.places p.0 nobody) (part_of log p.0) ((start_places d log none stood).each p.0) ∙ here) omitted))
    (λ q other omitted. omitted))
    (tracks_gone d.seen after p log put (start_tracks d log none stood)) (unexposed_put d.seen after p.0 put stood.unexposed)))

pub away_moves : (mode : Mode) (d : Desk) (p : PeerNo) → d.acts ≡ [] → IsInOrder d → is_here (get_or d.places p.0 nobody) ≡ false → Moves mode (Taking (Gone p)) d d
away_moves mode d p none order away = stay_moves order (taken (λ log stood.
    let stand = start_places d log none stood in
    stands_start d.places d.seen d.acts (Took (Gone p) ∷ log) none
    (stand_same d.places log (Took (Gone p)) stand (λ q fits. gone_fits (get_or d.places q nobody) p q (part_of log q) (λ same. ap (λ (k : ℕ). is_here (get_or d.places k nobody)) same ∙ away) fits) refl
    (λ q omitted. omitted) (λ q omitted. omitted))
    (tracks_away d.seen p log (here_on (get_or d.places p.0 nobody) (part_of log p.0) (stand.each p.0) ∙ away) (start_tracks d log none stood)) stood.unexposed))

-- the end of all deliveries changes nothing
pub ended_moves : (mode : Mode) (d : Desk) → d.acts ≡ [] → IsInOrder d → Moves mode (Taking Ended) d d
ended_moves mode d none order = stay_moves order (taken (λ log stood.
    stands_start d.places d.seen d.acts (Took Ended ∷ log) none
    (stand_same d.places log (Took Ended) (start_places d log none stood) (λ q fits. fits) refl (λ q omitted. omitted)
    (λ q omitted. omitted))
    (tracks_ended d.seen log (start_tracks d log none stood)) stood.unexposed))

-- the send to a peer has failed, and it is closed
cut_goes : {rule : Rule} (places : List Place) (log cut : Log) (p : PeerNo) → p.0 < length places → PlacesStand places log → CutFor p log cut → Goes rule (set places p.0 (Lost (ClosedFor SendFailed))) (Close p SendFailed ∷ []) cut
cut_goes places log cut p lt stand is = record {
  stand = record {
    count = grind (arith, common_steps, stand.count, is.dials);
    omitted = omitted_set places p.0 (Lost (ClosedFor SendFailed)) log (Closed p ∷ cut) lt stand.omitted (λ same. cc)
        (λ q other omitted. inr (is.omitted q other omitted));
    named = named_set places p.0 (Lost (ClosedFor SendFailed)) log (Closed p ∷ cut) lt stand.named
        (λ right. is.rightly right.1)
        (λ right omitted. absurd (elim omitted [
          | inl now ↦ both_ways (is_connected (trail cut p.0)) is.off now.1.there
          | inr before ↦ is.cleared before
        ]))
        (λ q other omitted. is.unomitted q other (unomitted_close p cut q other omitted));
    each = λ q. elim (cases_eq q p.0) [
      | inl same ↦ subst (λ k. Fits (get_or (set places p.0 (Lost (ClosedFor SendFailed))) k nobody) (part_of (Closed p ∷ cut) k)) (sym same)
          (subst (λ x. Fits x (part_of (Closed p ∷ cut) p.0)) (sym (set_is places p.0 (Lost (ClosedFor SendFailed)) lt))
          (subst (λ (x : Part). IsLost (ClosedFor SendFailed) x.trail) (sym (closed_here p (part_of cut p.0))) (cut_now (trail cut p.0) is.broken)))
      | inr other ↦ subst (λ x. Fits x (part_of (Closed p ∷ cut) q)) (sym (set_other places p.0 q (Lost (ClosedFor SendFailed)) other))
          (subst (λ t. Fits (get_or places q nobody) t) (sym (closed_others p q (part_of cut q) other ∙ is.others q other)) (stand.each q))
    ];
  };
  allowed = ((omega (arith, number_within places log p.0 stand lt, is.dials), inl (inr (inl (refl, is.broken))), inl (λ sound. absurd (both_ways (has_failed (trail cut p.0)) sound is.broken)), λ right omits. absurd (both_ways (is_connected (trail cut p.0)) is.off omits.there)), tt);
}

pub cut_moves : (mode : Mode) (d : Desk) (p : PeerNo) (after : Seen) → d.acts ≡ [] → p.0 < length d.places → IsInOrder d → IsPut d.seen after p.0 None no_claims
    → Moves mode (CutOff p d.places) d (record { places = set d.places p.0 (Lost (ClosedFor SendFailed)); seen = after; acts = d.acts ++ Close p SendFailed ∷ [] })
cut_moves mode d p after none lt order put =
    set_moves p.0 (Lost (ClosedFor SendFailed)) lt order (is_lost d.seen after p.0 (ClosedFor SendFailed) put) (extends_one d.acts (Close p SendFailed)) (λ all. All-push IsDoable d.acts (Close p SendFailed) all (omega (arith, lt, order.few))) (λ was. refl)
    (λ log cut is stood.
    subst (λ (xs : List Act). Stands mode (record { places = set d.places p.0 (Lost (ClosedFor SendFailed)); seen = after; acts = xs ++ Close p SendFailed ∷ [] }) cut) (sym none) (record {
      goes = cut_goes d.places log cut p is.0 (start_places d log none stood) is.1;
      tracks = cut_tracks log cut p d.seen after (start_tracks d log none stood) is.1 put;
      unexposed = unexposed_put d.seen after p.0 put stood.unexposed;
    }))

-- time has passed, and then whoever was late was closed
pub tick_moves : (mode : Mode) (d : Desk) (places : List Place) (seconds : ℕ) (now : Desk) → d.acts ≡ [] → ((log : Log) → PlacesStand d.places log → PlacesStand places (Took (Tick seconds) ∷ log))
    → Moves mode Same (record { places = places; seen = d.seen; acts = d.acts }) now → AreCalm now.places → Moves mode (Taking (Tick seconds)) d now
tick_moves mode d places seconds now none passed closed calm = record {
  stands = λ log next is stood.
      let ticked = stands_start {mode = mode} places d.seen d.acts (Took (Tick seconds) ∷ log) none (passed log (start_places d log none stood)) (tracks_tick d.seen seconds log (start_tracks d log none stood)) stood.unexposed in
      closed.stands (Took (Tick seconds) ∷ log) next is ticked;
  order = closed.order;
  watch = closed.watch;
  more = closed.more;
  doable = closed.doable;
  calm = λ was. calm;
}
