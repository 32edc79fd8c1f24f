-- How the places go on with the log.
use Rattle.std.proofs.Common.{◌≡◌, ◌≢◌, inl, inr, ℕ, zero, suc, ◌+◌, ◌<◌, ◌≤◌, List, [], ◌∷◌, ◌++◌, length, get_or, set, Option, Bool, true, false, refl, sym, ◌∙◌, ap, subst, arith}
use Rattle.std.proofs.lemmas.Grind.{common_steps}
use Rattle.std.specs.Prelude.{◌||◌, not}
use Rattle.std.proofs.lemmas.Bool.{cases_eq, cases_Bool, or_cases, and_parts, both_ways, false≢true}
use Rattle.std.specs.List.{list_any}
use Rattle.std.proofs.lemmas.List.{append-nil}
use Rattle.std.proofs.lemmas.List.Folds.{list_any-append}
use Rattle.cf_bytes.specs.declared.peer.PeerNo.{PeerNo}
use Rattle.cf_headers.specs.Chain.{Chain}
use Rattle.cf_msg.specs.declared.msg.Msg.{Msg}
use Rattle.cf_msg.specs.declared.msg.Msg.TheVariants.{Version, GetHeaders}
use Rattle.cf_msg.specs.Message.{is_version}
use Rattle.cf_peer.specs.declared.act.Act.{Act}
use Rattle.cf_peer.specs.declared.act.Act.TheVariants.{Send, Close}
use Rattle.cf_wires.specs.declared.event.Event.{Event}
use Rattle.cf_wires.specs.declared.event.Event.TheVariants.{Dialled, NotDialled, Sent, SendFailed, Closed, Took}
use Rattle.cf_wires.specs.declared.event.Mark.TheVariants as mark
use Rattle.cf_peer.specs.declared.mode.Mode.{Mode}
use Rattle.cf_peer.specs.declared.mode.Mode.TheVariants.{Following}
use Rattle.cf_peer.specs.declared.peer.Cause.{Cause}
use Rattle.cf_peer.specs.declared.peer.Cause.TheVariants.{Omits, Overdue}
use Rattle.cf_peer.specs.declared.peer.Peer.{Peer}
use Rattle.cf_peer.specs.Acts.{bytes_of, IsSendable}
use Rattle.cf_wires.specs.Log.{Log, tally_of, noted}
use Rattle.cf_peer.specs.Trail.{replies_owed, Trail, Part, Called, Asked, Lost as LostItem, part_of, trail, went_on, asks, spelled, with_item, called_part, is_connected, own, replies_sent, as_reply, IsClientVersion}
use Rattle.cf_peer.specs.Asking.{counted, age, is_open, MayAskIn, IsFree}
use Rattle.cf_peer.specs.Peer.{Holds, heard_out, wants, is_idle_peer, called_peer, asked_for_headers}
use Rattle.cf_sync.specs.Blame.{HasOmitted}
use Rattle.cf_sync.specs.Fetching.{MaySendIn, RightlyIn, Rule}
use Rattle.cf_holds.specs.Due.{IsCalledFor}
use Rattle.cf_sync.specs.Honesty.{messages_asked}
use Rattle.cf_sync.proofs.Counted.{same_use}
use Rattle.cf_sync.proofs.Omitted.{connected_unomitted}
use Rattle.cf_peer.proofs.Peers.{open_by, idle_request, late_is, wants_is, asked_headers_holds, called_holds}
use Rattle.cf_place.specs.declared.place.Place.{Place}
use Rattle.cf_place.specs.declared.place.Place.TheVariants.{Here, Lost}
use Rattle.cf_place.specs.declared.place.Loss.{Loss}
use Rattle.cf_place.specs.declared.place.Loss.TheVariants.{NotDialled as NeverCalled, Closed as ClosedFor}
use Rattle.cf_place.specs.Places.{Keeps, Fits, nobody, PlacesStand, entry_of, after, MayAct, Allowed, Goes, is_calm, is_busy, is_here, state_of, IsGreeting, IsQuestion, AsksAbove}
use Rattle.cf_place.specs.Standing.{IsGreetedBy, IsAnswered, IsReplied, IsLost, IsNamed, IsState}
use Rattle.cf_client.proofs.Spelled.{spelled_bytes}
use Rattle.cf_client.proofs.Losing.{lost_again, lost_never, shut_now}

pub after-append : (acts : List Act) (a : Act) (log : Log) → after (acts ++ a ∷ []) log ≡ entry_of a ∷ after acts log
after-append [] a log = refl
after-append (b ∷ acts) a log = after-append acts a (entry_of b ∷ log)

pub allowed-append : (rule : Rule) (acts : List Act) (a : Act) (log : Log) → Allowed rule acts log → MayAct rule a (after acts log) → Allowed rule (acts ++ a ∷ []) log
allowed-append rule [] a log h may = (may, tt)
allowed-append rule (b ∷ acts) a log h may = (h.0, allowed-append rule acts a (entry_of b ∷ log) h.1 may)

-- the place that was set, or put at the end
pub set_is : (places : List Place) (i : ℕ) (s : Place) → i < length places → get_or (set places i s) i nobody ≡ s
set_is places i s lt = grind (arith, common_steps)

-- what stands at a place that is there, whatever is read past the end
pub any_default : (places : List Place) (i : ℕ) (a b : Place) → i < length places → get_or places i a ≡ get_or places i b
any_default places i a b lt = grind (arith, common_steps)

pub push_is : (places : List Place) (p : ℕ) (s : Place) → p ≡ length places → get_or (places ++ s ∷ []) p nobody ≡ s
push_is places p s last = grind (arith, common_steps)

-- who has omitted something still has after acts
pub omitted_act : (a : Act) (log : Log) (q : ℕ) → HasOmitted log q → HasOmitted (entry_of a ∷ log) q
omitted_act (Send p m) log q omitted = omitted
omitted_act (Close p cause) log q omitted = inr omitted

pub omitted_acts : (acts : List Act) (log : Log) (q : ℕ) → HasOmitted log q → HasOmitted (after acts log) q
omitted_acts [] log q omitted = omitted
omitted_acts (a ∷ acts) log q omitted = omitted_acts acts (entry_of a ∷ log) q (omitted_act a log q omitted)

-- where one place was set and isn't so lost, another is
pub omitted_set : (places : List Place) (i : ℕ) (s : Place) (log next : Log) → i < length places
    → ((q : ℕ) → get_or places q nobody ≡ Lost (ClosedFor Omits) → HasOmitted log q)
    → (s ≡ Lost (ClosedFor Omits) → ⊥) → ((q : ℕ) → q ≢ i → HasOmitted log q → HasOmitted next q)
    → (q : ℕ) → get_or (set places i s) q nobody ≡ Lost (ClosedFor Omits) → HasOmitted next q
omitted_set places i s log next lt before else_lost kept q is = elim (cases_eq q i) [
  | inl same ↦ absurd (else_lost (sym (ap (λ (k : ℕ). get_or (set places i s) k nobody) same ∙ set_is places i s lt) ∙ is))
  | inr other ↦
      let there : get_or (set places i s) q nobody ≡ get_or places q nobody = grind (arith, common_steps) in
      kept q other (before q (sym there ∙ is))
]

-- the log before was as it may be
pub right_event : (e : Event) (log : Log) → RightlyIn Following (e ∷ log) → RightlyIn Following log
right_event (Dialled p name) log right = right
right_event (NotDialled p name) log right = right
right_event (Sent p bytes) log right = right.1
right_event (SendFailed p) log right = right
right_event (Closed p) log right = right.1
right_event (Took d) log right = right.1

pub right_before : (acts : List Act) (log : Log) → RightlyIn Following (after acts log) → RightlyIn Following log
right_before [] log right = right
right_before (a ∷ acts) log right = right_event (entry_of a) log (right_before acts (entry_of a ∷ log) right)

-- who was closed while it omitted something has a place that says so
abbrev pub AreNamed : List Place → Log → Type 0
AreNamed places log = RightlyIn Following log → (q : ℕ) → HasOmitted log q → get_or places q nobody ≡ Lost (ClosedFor Omits)

-- where one peer was closed, nobody else has omitted something by that
pub unomitted_close : (p : PeerNo) (log : Log) (q : ℕ) → q ≢ p.0 → HasOmitted (Closed p ∷ log) q → HasOmitted log q
unomitted_close p log q other (inl now) = absurd (other (sym now.0))
unomitted_close p log q other (inr before) = before

-- where one place was set, and says so where it is to
pub named_set : (places : List Place) (i : ℕ) (s : Place) (log next : Log) → i < length places → AreNamed places log
    → (RightlyIn Following next → RightlyIn Following log) → (RightlyIn Following next → HasOmitted next i → s ≡ Lost (ClosedFor Omits))
    → ((q : ℕ) → q ≢ i → HasOmitted next q → HasOmitted log q) → AreNamed (set places i s) next
named_set places i s log next lt before back here kept right q is = elim (cases_eq q i) [
  | inl same ↦ ap (λ (k : ℕ). get_or (set places i s) k nobody) same ∙ set_is places i s lt
      ∙ here right (subst (HasOmitted next) same is)
  | inr other ↦
      let there : get_or (set places i s) q nobody ≡ get_or places q nobody = grind (arith, common_steps) in
      there ∙ before (back right) q (kept q other is)
]

push_other : (places : List Place) (p q : ℕ) (s : Place) → p ≡ length places → q ≢ p → get_or (places ++ s ∷ []) q nobody ≡ get_or places q nobody
push_other places p q s last other = grind (arith, common_steps)

-- one place and its peer's part of the log go on together
pub stand_at : (places : List Place) (log : Log) (i : ℕ) (s : Place) (e : Event)
    → i < length places → PlacesStand places log
    → ((q : ℕ) → q ≢ i → went_on e q (part_of log q) ≡ part_of log q)
    → (noted e (tally_of log)).dials ≡ (tally_of log).dials
    → Fits s (went_on e i (part_of log i))
    → (s ≡ Lost (ClosedFor Omits) → ⊥) → ((q : ℕ) → HasOmitted log q → HasOmitted (e ∷ log) q)
    → (RightlyIn Following (e ∷ log) → HasOmitted (e ∷ log) i → s ≡ Lost (ClosedFor Omits))
    → ((q : ℕ) → q ≢ i → HasOmitted (e ∷ log) q → HasOmitted log q)
    → PlacesStand (set places i s) (e ∷ log)
stand_at places log i s e lt stand others dials fits else_lost kept here back = record {
  count = grind (arith, common_steps, stand.count);
  omitted = omitted_set places i s log (e ∷ log) lt stand.omitted else_lost (λ q other. kept q);
  named = named_set places i s log (e ∷ log) lt stand.named (right_event e log) here back;
  each = λ p. elim (cases_eq p i) [
    | inl same ↦ subst (λ q. Fits (get_or (set places i s) q nobody) (went_on e q (part_of log q))) (sym same)
        (subst (λ x. Fits x (went_on e i (part_of log i))) (grind (arith, common_steps)) fits)
    | inr other ↦ subst (λ x. Fits x (went_on e p (part_of log p))) (grind (arith, common_steps))
        (subst (λ t. Fits (get_or places p nobody) t) (sym (others p other)) (stand.each p))
  ];
}

pub goes_act : {rule : Rule} (places : List Place) (acts : List Act) (log : Log) (i : ℕ) (s : Place) (a : Act)
    → i < length places → Goes rule places acts log
    → ((q : ℕ) → q ≢ i → went_on (entry_of a) q (part_of (after acts log) q) ≡ part_of (after acts log) q)
    → (noted (entry_of a) (tally_of (after acts log))).dials ≡ (tally_of (after acts log)).dials
    → MayAct rule a (after acts log)
    → Fits s (went_on (entry_of a) i (part_of (after acts log) i))
    → (s ≡ Lost (ClosedFor Omits) → ⊥)
    → (RightlyIn Following (entry_of a ∷ after acts log) → HasOmitted (entry_of a ∷ after acts log) i → s ≡ Lost (ClosedFor Omits))
    → ((q : ℕ) → q ≢ i → HasOmitted (entry_of a ∷ after acts log) q → HasOmitted (after acts log) q)
    → Goes rule (set places i s) (acts ++ a ∷ []) log
goes_act {rule = rule} places acts log i s a lt goes others dials may fits else_lost here back = record {
  stand = subst (PlacesStand (set places i s)) (sym (after-append acts a log))
      (stand_at places (after acts log) i s (entry_of a) lt goes.stand others dials fits else_lost (omitted_act a (after acts log)) here back);
  allowed = allowed-append rule acts a log goes.allowed may;
}

-- an entry of one peer changes nobody else's part
pub sent_others : (p : PeerNo) (bytes : List ℕ) (q : ℕ) (part : Part) → q ≢ p.0 → went_on (Sent p bytes) q part ≡ part
sent_others p bytes q part ne = grind (arith, common_steps)

pub closed_others : (p : PeerNo) (q : ℕ) (part : Part) → q ≢ p.0 → went_on (Closed p) q part ≡ part
closed_others p q part ne = grind (arith, common_steps)

pub closed_here : (p : PeerNo) (part : Part) → went_on (Closed p) p.0 part ≡ with_item (LostItem mark.Closed) part
closed_here p part = grind (arith, common_steps)

pub sent_here : (p : PeerNo) (m : Msg) (part : Part) → IsSendable m → went_on (Sent p (bytes_of m)) p.0 part ≡ with_item (Asked m) part
sent_here p m part sendable =
    let here : went_on (Sent p (bytes_of m)) p.0 part ≡ record part { trail = asks (spelled (bytes_of m)) part.trail } = grind (arith, common_steps) in
    here ∙ ap (λ (o : Option Msg). record part { trail = asks o part.trail }) (spelled_bytes m sendable)

pub number_within : (places : List Place) (log : Log) (i : ℕ) → PlacesStand places log → i < length places → i ≤ (tally_of log).dials
number_within places log i stand lt = omega (arith, stand.count)

-- whose request is late
pub late_open : (place : Place) (part : Part) → Fits place part → is_calm place ≡ false → (is_open part.trail ≡ true) × (60 ≤ age part.trail)
late_open (Here peer) part keeps is = late_is peer part.trail is keeps.holds
late_open (Lost end) part off is = absurd (false≢true (sym is))

-- a connected peer was answered; and of a place whose request is late one is connected
pub all_replied : (peer : Peer) (part : Part) → Keeps peer part → replies_sent part.trail ≡ replies_owed (counted part.trail)
all_replied peer part keeps = keeps.answered.replies ∙ sym (same_use part.trail keeps.holds.on keeps.holds.clean).owing

pub kept_replied : (peer : Peer) (part : Part) → Keeps peer part → IsReplied part.trail
kept_replied peer part keeps sound = all_replied peer part keeps

late_replied : (place : Place) (part : Part) → Fits place part → is_calm place ≡ false → IsReplied part.trail
late_replied (Here peer) part keeps is = kept_replied peer part keeps
late_replied (Lost end) part off is = absurd (false≢true (sym is))

pub late_goes : {rule : Rule} (places : List Place) (acts : List Act) (log : Log) (i : ℕ)
    → i < length places → Goes rule places acts log → is_calm (get_or places i nobody) ≡ false
    → IsNamed (after acts log) i Overdue
    → Goes rule (set places i (Lost (ClosedFor Overdue))) (acts ++ Close (record { 0 = i }) Overdue ∷ []) log
late_goes places acts log i lt goes is named =
    let p : PeerNo = record { 0 = i } in
    let part = part_of (after acts log) i in
    let o = late_open (get_or places i nobody) part (goes.stand.each i) is in
    goes_act places acts log i (Lost (ClosedFor Overdue)) (Close p Overdue) lt goes (λ q other. closed_others p q (part_of (after acts log) q) other) refl
    (number_within places (after acts log) i goes.stand lt, inl (inr (inr (refl, o.0, o.1))), inl (late_replied (get_or places i nobody) part (goes.stand.each i) is), named)
    (subst (λ (x : Part). IsLost (ClosedFor Overdue) x.trail) (sym (closed_here p part)) (shut_now part.trail Overdue (and_parts (is_connected part.trail) _ o.0).0 (inr (inr (refl, o.0, o.1)))))
    (λ same. cc)
    (λ right omitted. elim omitted [
      | inl now ↦ ap (λ (c : Cause). Lost (ClosedFor c)) (named right.1 now.1)
      | inr before ↦ absurd (connected_unomitted (after acts log) i (and_parts (is_connected part.trail) _ o.0).0 before)
    ])
    (unomitted_close p (after acts log))

-- a peer to which nothing is open may be asked
pub idle_free : (peer : Peer) (part : Part) → Keeps peer part → is_idle_peer peer ≡ true → IsFree part.trail
idle_free peer part keeps is = let idle = idle_request peer part.trail keeps.holds is in record { on = keeps.holds.on; over = idle.0; idle = idle.1; answered = all_replied peer part keeps }

-- a message is sent, where it may be sent and the place then holds what it is to hold
pub send_goes : {rule : Rule} (places : List Place) (acts : List Act) (log : Log) (i : ℕ) (now : Peer) (m : Msg)
    → i < length places → Goes rule places acts log → IsSendable m → MaySendIn rule.mode (after acts log) i m → IsCalledFor rule (after acts log) i m
    → Keeps now (with_item (Asked m) (part_of (after acts log) i))
    → Goes rule (set places i (Here now)) (acts ++ Send (record { 0 = i }) m ∷ []) log
send_goes places acts log i now m lt goes sendable may needed keeps =
    let p : PeerNo = record { 0 = i } in
    let part = part_of (after acts log) i in
    goes_act places acts log i (Here now) (Send p m) lt goes (λ q other. sent_others p (bytes_of m) q (part_of (after acts log) q) other) refl
    (number_within places (after acts log) i goes.stand lt, sendable, may, needed)
    (subst (λ (x : Part). Keeps now x) (sym (sent_here p m part sendable)) keeps)
    (λ same. cc)
    (λ right omitted. absurd (connected_unomitted (after acts log) i keeps.holds.on omitted))
    (λ q other omitted. omitted)

-- what is true of some place, or of none
pub any_at : (p : Place → Bool) (places : List Place) → list_any p places ≡ true → (i : ℕ) × (p (get_or places i nobody) ≡ true)
any_at p [] h = absurd (false≢true h)
any_at p (s ∷ places) h = elim (or_cases (p s) (list_any p places) h) [
  | inl here ↦ (0, here)
  | inr there ↦ let r = any_at p places there in (suc r.0, r.1)
]

pub none_at : (p : Place → Bool) (places : List Place) → p nobody ≡ false → list_any p places ≡ false → (i : ℕ) → p (get_or places i nobody) ≡ false
none_at p [] z h i = z
none_at p (s ∷ places) z h zero = elim (cases_Bool (p s)) [ inl t ↦ absurd (both_ways _ h (rw t refl)) | inr f ↦ f ]
none_at p (s ∷ places) z h (suc i) = elim (cases_Bool (p s)) [
  | inl t ↦ absurd (both_ways _ h (rw t refl))
  | inr f ↦ none_at p places z (let g : (p s || list_any p places) ≡ false = h in grind (arith, g)) i
]

-- a peer that is sent a question was greeted and answered before
pub greeted_more : (ms : List Msg) (m : Msg) → is_version m ≡ false → IsGreetedBy ms → IsGreetedBy (ms ++ m ∷ [])
greeted_more [] m other greeted = absurd greeted
greeted_more (n ∷ ms) m other greeted = (greeted.0, list_any-append is_version ms (m ∷ []) ∙ rw (greeted.1, other) refl)

asked_answered : (t : Trail) (m : Msg) → IsAnswered t → is_version m ≡ false → as_reply m ≡ [] → IsAnswered (Asked m ∷ t)
asked_answered t m answered other none = record {
  greeted = greeted_more (messages_asked t) m other answered.greeted;
  replies = ap (λ (rs : List Msg). replies_sent t ++ rs) none ∙ append-nil (replies_sent t) ∙ answered.replies;
}

-- headers
question_may : (mode : Mode) (log : Log) (p : ℕ) (peer : Peer) (m : Msg) → Keeps peer (part_of log p) → wants mode peer ≡ true → AsksAbove (own (trail log p)) m → MaySendIn mode log p m
question_may mode log p peer (GetHeaders version locator stop) h is asks = let w = wants_is mode peer (trail log p) h.holds (all_replied peer (part_of log p) h) is in record { of_its_part = (w.0, w.1, asks.0, asks.1, asks.2); wanted = tt; alone = tt }
question_may mode log p peer m h is asks = absurd asks

question_needed : (rule : Rule) (log : Log) (p : ℕ) (chain : Chain) (m : Msg) → AsksAbove chain m → IsCalledFor rule log p m
question_needed rule log p chain (GetHeaders version locator stop) asks = tt
question_needed rule log p chain m asks = absurd asks

question_keeps : (peer : Peer) (part : Part) (chain : Chain) (m : Msg) → Keeps peer part → is_idle_peer peer ≡ true → AsksAbove chain m → Keeps (asked_for_headers peer) (with_item (Asked m) part)
question_keeps peer part chain (GetHeaders version locator stop) keeps is asks = record {
  holds = asked_headers_holds peer part.trail version locator stop keeps.holds is;
  waits = keeps.waits;
  answered = asked_answered part.trail (GetHeaders version locator stop) keeps.answered refl refl;
}
question_keeps peer part chain m keeps is asks = absurd asks

pub wants_goes : {rule : Rule} (places : List Place) (acts : List Act) (log : Log) (i : ℕ) (peer : Peer) (chain : Chain) (m : Msg)
    → i < length places → Goes rule places acts log → get_or places i nobody ≡ Here peer → wants rule.mode peer ≡ true → chain ≡ own (trail (after acts log) i) → IsQuestion chain m
    → Goes rule (set places i (Here (asked_for_headers peer))) (acts ++ Send (record { 0 = i }) m ∷ []) log
wants_goes {rule = rule} places acts log i peer chain m lt goes here is mine question =
    let keeps : Keeps peer (part_of (after acts log) i) = subst (λ (x : Place). Fits x (part_of (after acts log) i)) here (goes.stand.each i) in
    send_goes places acts log i (asked_for_headers peer) m lt goes question.sendable
    (question_may rule.mode (after acts log) i peer m keeps is (subst (λ (c : Chain). AsksAbove c m) mine question.asks))
    (question_needed rule (after acts log) i chain m question.asks)
    (question_keeps peer (part_of (after acts log) i) chain m keeps (and_parts (not (heard_out rule.mode peer)) (is_idle_peer peer) is).1 question.asks)

-- a message is asked of a connected peer to which nothing is open
pub keeps_at : {rule : Rule} (places : List Place) (acts : List Act) (log : Log) (i : ℕ) (peer : Peer) → Goes rule places acts log → get_or places i nobody ≡ Here peer
    → Keeps peer (part_of (after acts log) i)
keeps_at places acts log i peer goes here = subst (λ (x : Place). Fits x (part_of (after acts log) i)) here (goes.stand.each i)

pub asked_keeps : (now peer : Peer) (part : Part) (m : Msg) → Keeps peer part → Holds now (Asked m ∷ part.trail) → now.framer ≡ peer.framer → is_version m ≡ false → as_reply m ≡ [] → Keeps now (with_item (Asked m) part)
asked_keeps now peer part m keeps holds same other none = record {
  holds = holds;
  waits = same ∙ keeps.waits;
  answered = asked_answered part.trail m keeps.answered other none;
}

-- an entry that changes nobody's place
pub stand_same : (places : List Place) (log : Log) (e : Event)
    → PlacesStand places log
    → ((q : ℕ) → Fits (get_or places q nobody) (part_of log q) → Fits (get_or places q nobody) (went_on e q (part_of log q)))
    → (noted e (tally_of log)).dials ≡ (tally_of log).dials
    → ((q : ℕ) → HasOmitted log q → HasOmitted (e ∷ log) q)
    → ((q : ℕ) → HasOmitted (e ∷ log) q → HasOmitted log q)
    → PlacesStand places (e ∷ log)
stand_same places log e stand same dials kept back = record {
  count = stand.count ∙ ap (λ (n : ℕ). n + 1) (sym dials);
  omitted = λ q is. kept q (stand.omitted q is);
  named = λ right q is. stand.named (right_event e log right) q (back q is);
  each = λ q. same q (stand.each q);
}

-- the one place that is nobody's
pub stand_first : PlacesStand (nobody ∷ []) []
stand_first = record {
  count = refl;
  omitted = λ p is. absurd (let no = sym (first_at p) ∙ is in cc no);
  named = λ right p is. absurd is;
  each = λ p. subst (λ (x : Place). Fits x (part_of [] p)) (sym (first_at p)) lost_never;
} where
  first_at : (p : ℕ) → get_or (nobody ∷ []) p nobody ≡ nobody
  first_at zero = refl
  first_at (suc p) = refl

pub goes_start : {rule : Rule} (places : List Place) (acts : List Act) (log : Log) → acts ≡ [] → PlacesStand places log → Goes rule places acts log
goes_start {rule = rule} places acts log none stand =
    subst (λ a. Goes rule places a log) (sym none) (record { stand = stand; allowed = tt })

-- where one place was added that isn't so lost, another is
omitted_push : (places : List Place) (s : Place) (log next : Log)
    → ((q : ℕ) → get_or places q nobody ≡ Lost (ClosedFor Omits) → HasOmitted log q)
    → (s ≡ Lost (ClosedFor Omits) → ⊥) → ((q : ℕ) → q ≢ length places → HasOmitted log q → HasOmitted next q)
    → (q : ℕ) → get_or (places ++ s ∷ []) q nobody ≡ Lost (ClosedFor Omits) → HasOmitted next q
omitted_push places s log next before else_lost kept q is = elim (cases_eq q (length places)) [
  | inl same ↦ absurd (else_lost (sym (push_is places q s same) ∙ is))
  | inr other ↦ kept q other (before q (sym (push_other places (length places) q s refl other) ∙ is))
]

-- where one place was added, of a peer that hadn't omitted anything
named_push : (places : List Place) (s : Place) (log next : Log) → AreNamed places log → (RightlyIn Following next → RightlyIn Following log)
    → ((q : ℕ) → HasOmitted next q → HasOmitted log q) → AreNamed (places ++ s ∷ []) next
named_push places s log next before back kept right q is = elim (cases_eq q (length places)) [
  | inl same ↦
      let past : get_or places q nobody ≡ nobody = grind (arith, common_steps) in
      absurd (let no = sym past ∙ before (back right) q (kept q is) in cc no)
  | inr other ↦ push_other places (length places) q s refl other ∙ before (back right) q (kept q is)
]

-- a new place and the call of its peer
pub stand_push : (places : List Place) (log : Log) (p : ℕ) (s : Place) (e : Event)
    → p ≡ length places → PlacesStand places log
    → ((q : ℕ) → q ≢ p → went_on e q (part_of log q) ≡ part_of log q)
    → (noted e (tally_of log)).dials ≡ (tally_of log).dials + 1
    → Fits s (went_on e p (part_of log p))
    → (s ≡ Lost (ClosedFor Omits) → ⊥) → ((q : ℕ) → HasOmitted log q → HasOmitted (e ∷ log) q)
    → ((q : ℕ) → HasOmitted (e ∷ log) q → HasOmitted log q)
    → PlacesStand (places ++ s ∷ []) (e ∷ log)
stand_push places log p s e last stand others dials fits else_lost kept back = record {
  count = grind (arith, common_steps, stand.count);
  omitted = omitted_push places s log (e ∷ log) stand.omitted else_lost (λ q other. kept q);
  named = named_push places s log (e ∷ log) stand.named (right_event e log) back;
  each = λ q. elim (cases_eq q p) [
    | inl same ↦ subst (λ k. Fits (get_or (places ++ s ∷ []) k nobody) (went_on e k (part_of log k))) (sym same)
        (subst (λ x. Fits x (went_on e p (part_of log p))) (sym (push_is places p s last)) fits)
    | inr other ↦ subst (λ x. Fits x (went_on e q (part_of log q))) (sym (push_other places p q s last other))
        (subst (λ t. Fits (get_or places q nobody) t) (sym (others q other)) (stand.each q))
  ];
}

pub dialled_others : (p : PeerNo) (name : List ℕ) (q : ℕ) (part : Part) → q ≢ p.0 → went_on (Dialled p name) q part ≡ part
dialled_others p name q part ne = grind (arith, common_steps)

dialled_here : (p : PeerNo) (name : List ℕ) (part : Part) → went_on (Dialled p name) p.0 part ≡ called_part part
dialled_here p name part = grind (arith, common_steps)

greeting_may : (mode : Mode) (log : Log) (p : ℕ) (t : Trail) (m : Msg) → trail log p ≡ Called ∷ t → IsClientVersion m → MaySendIn mode log p m
greeting_may mode log p t (Version version services time to from nonce agent height relay) here ours = record {
  of_its_part = subst (λ (x : Trail). MayAskIn mode x (Version version services time to from nonce agent height relay)) (sym here) (refl, refl, ours);
  wanted = tt;
  alone = tt;
}
greeting_may mode log p t m here ours = absurd ours

greeting_needed : (rule : Rule) (log : Log) (p : ℕ) (m : Msg) → IsClientVersion m → IsCalledFor rule log p m
greeting_needed rule log p (Version version services time to from nonce agent height relay) ours = tt
greeting_needed rule log p m ours = absurd ours

greeting_keeps : (part : Part) (m : Msg) → IsClientVersion m → Keeps called_peer (with_item (Asked m) (called_part part))
greeting_keeps part (Version version services time to from nonce agent height relay) ours = record {
  holds = called_holds (Version version services time to from nonce agent height relay) part.trail ours;
  waits = refl;
  answered = record { greeted = (ours, refl); replies = refl };
}
greeting_keeps part m ours = absurd ours

-- the parts of a log with one message more
sent_part : (log : Log) (p : PeerNo) (m : Msg) (q : ℕ) → q ≢ p.0 → part_of (Sent p (bytes_of m) ∷ log) q ≡ part_of log q
sent_part log p m q ne = sent_others p (bytes_of m) q (part_of log q) ne

pub called_goes : {rule : Rule} (places : List Place) (log : Log) (p : PeerNo) (name : List ℕ) (m : Msg) → p.0 ≡ length places → PlacesStand places log → IsGreeting m
    → Goes rule (places ++ Here called_peer ∷ []) (Send p m ∷ []) (Dialled p name ∷ log)
called_goes {rule = rule} places log p name m last stand greeting =
    let part = part_of log p.0 in
    let here : part_of (Dialled p name ∷ log) p.0 ≡ called_part part = dialled_here p name part in
    let now : part_of (Sent p (bytes_of m) ∷ Dialled p name ∷ log) p.0 ≡ with_item (Asked m) (called_part part) =
    sent_here p m (part_of (Dialled p name ∷ log) p.0) greeting.sendable ∙ ap (λ (x : Part). with_item (Asked m) x) here in
    let mine : Fits (Here called_peer) (part_of (Sent p (bytes_of m) ∷ Dialled p name ∷ log) p.0) = subst (λ (x : Part). Keeps called_peer x) (sym now) (greeting_keeps part m greeting.ours) in
    record {
      stand = record {
        count = grind (arith, common_steps, stand.count);
        omitted = omitted_push places (Here called_peer) log (Sent p (bytes_of m) ∷ Dialled p name ∷ log) stand.omitted
            (λ same. cc) (λ q other before. (λ same. other (sym same ∙ last), before));
        named = named_push places (Here called_peer) log (Sent p (bytes_of m) ∷ Dialled p name ∷ log) stand.named
            (λ right. right.1) (λ q is. is.1);
        each = λ q. elim (cases_eq q p.0) [
          | inl same ↦ subst (λ k. Fits (get_or (places ++ Here called_peer ∷ []) k nobody) (part_of (Sent p (bytes_of m) ∷ Dialled p name ∷ log) k)) (sym same)
              (subst (λ x. Fits x (part_of (Sent p (bytes_of m) ∷ Dialled p name ∷ log) p.0)) (sym (push_is places p.0 (Here called_peer) last)) mine)
          | inr other ↦ subst (λ x. Fits x (part_of (Sent p (bytes_of m) ∷ Dialled p name ∷ log) q)) (grind (arith, common_steps))
              (subst (λ t. Fits (get_or places q nobody) t) (sym (sent_part (Dialled p name ∷ log) p m q other ∙ dialled_others p name q (part_of log q) other)) (stand.each q))
        ];
      };
      allowed = (
        (
          omega (arith, stand.count, last),
          greeting.sendable,
          greeting_may rule.mode (Dialled p name ∷ log) p.0 part.trail m (ap (λ (x : Part). x.trail) here) greeting.ours,
          greeting_needed rule (Dialled p name ∷ log) p.0 m greeting.ours,
        ),
        tt,
      );
    }

missed_here : (p : PeerNo) (name : List ℕ) (part : Part) → went_on (NotDialled p name) p.0 part ≡ with_item (LostItem mark.NotDialled) part
missed_here p name part = grind (arith, common_steps)

pub refused_stand : (places : List Place) (log : Log) (p : PeerNo) (name : List ℕ) → p.0 ≡ length places → PlacesStand places log
    → PlacesStand (places ++ Lost NeverCalled ∷ []) (NotDialled p name ∷ log)
refused_stand places log p name last stand =
    let past : get_or places p.0 nobody ≡ nobody = grind (arith, common_steps) in
    let before : IsLost NeverCalled (trail log p.0) = subst (λ (x : Place). Fits x (part_of log p.0)) past (stand.each p.0) in
    stand_push places log p.0 (Lost NeverCalled) (NotDialled p name) last stand (λ q other. grind (arith, common_steps)) refl
    (subst (λ (x : Part). IsLost NeverCalled x.trail) (sym (missed_here p name (part_of log p.0))) (lost_again NeverCalled mark.NotDialled (trail log p.0) refl before))
    (λ same. cc) (λ q omitted. omitted) (λ q omitted. omitted)

-- beyond the places nobody is connected
pub past_nobody : (places : List Place) (log : Log) (p : ℕ) → length places ≤ p → PlacesStand places log → is_connected (trail log p) ≡ false
past_nobody places log p past stand =
    let none : get_or places p nobody ≡ nobody = grind (arith, common_steps) in
    (subst (λ (x : Place). Fits x (part_of log p)) none (stand.each p)).off

-- what the state that the places show says of the log
pub busy_open : (place : Place) (part : Part) → Fits place part → is_open part.trail ≡ is_busy place
busy_open (Here peer) part fits = open_by peer part.trail fits.holds
busy_open (Lost end) part lost = rw lost.off refl

pub here_on : (place : Place) (part : Part) → Fits place part → is_connected part.trail ≡ is_here place
here_on (Here peer) part fits = fits.holds.on
here_on (Lost end) part lost = lost.off

pub state_is : (places : List Place) (log : Log) → PlacesStand places log → IsState (state_of places) log
state_is places log stand = elim (cases_Bool (list_any is_busy places)) [
  | inl some ↦ let i = any_at is_busy places some in rw some (i.0, busy_open (get_or places i.0 nobody) (part_of log i.0) (stand.each i.0) ∙ i.1)
  | inr none ↦ rw none (
      let quiet : (p : ℕ) → is_open (trail log p) ≡ false = λ p. busy_open (get_or places p nobody) (part_of log p) (stand.each p) ∙ none_at is_busy places refl none p in
      elim (cases_Bool (list_any is_here places)) [
        | inl up ↦ let i = any_at is_here places up in rw up (quiet, (i.0, here_on (get_or places i.0 nobody) (part_of log i.0) (stand.each i.0) ∙ i.1))
        | inr down ↦ rw down (λ p. here_on (get_or places p nobody) (part_of log p) (stand.each p) ∙ none_at is_here places refl down p)
      ])
]

-- a place that stays lost as it was
pub still_lost : (was now : Place) (loss : Loss) → is_here now ≡ is_here was
    → ((l : Loss) → now ≡ Lost l → was ≡ Lost l) → was ≡ Lost loss → now ≡ Lost loss
still_lost was (Here peer) loss here back is = absurd (false≢true (sym (ap is_here is) ∙ sym here))
still_lost was (Lost l) loss here back is = sym (back l refl) ∙ is
