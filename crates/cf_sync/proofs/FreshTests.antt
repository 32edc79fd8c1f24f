-- A filter that was asked for since its block was fetched isn't asked for a second time so that it is tested.
use Rattle.std.proofs.Common.{◌≡◌, ◌⊎◌, inl, inr, ℕ, zero, suc, ◌-◌, ◌≤◌, List, [], ◌∷◌, ◌++◌, length, map, take, reverse, Option, Some, None, Ok, Err, Bool, true, false, ◌==◌, if◌then◌else◌, refl, sym, ◌∙◌, ap, subst, arith, append_assoc}
use Rattle.std.specs.Prelude.{option_map}
use Rattle.std.proofs.lemmas.Bool.{eq-eqb, eqb-true, false≢true}
use Rattle.cf_bytes.specs.declared.hash.Hash32.{Hash32}
use Rattle.cf_bytes.specs.declared.peer.PeerNo.{PeerNo}
use Rattle.cf_block.specs.declared.header.Header.{Header}
use Rattle.cf_block.specs.Header.{block_hash_of}
use Rattle.cf_dispute.specs.declared.claim.Claim.{Claim}
use Rattle.cf_dispute.specs.Claims.{Table}
use Rattle.cf_frame.specs.declared.frame.Frame.{Frame}
use Rattle.cf_frame.specs.declared.frame.FrameFault.{FrameFault}
use Rattle.cf_frame.specs.Stream.{StreamRead, read_stream}
use Rattle.cf_headers.specs.Chain.{Hash, Chain, tip_hash, IsIn}
use Rattle.cf_match.specs.declared.job.Job.{Job}
use Rattle.cf_msg.specs.declared.msg.Msg.{Msg}
use Rattle.cf_msg.specs.declared.msg.Msg.TheVariants.{GetCfilters}
use Rattle.cf_msg.specs.Reading.{message_of}
use Rattle.cf_peer.specs.declared.peer.Cause.TheVariants.{BadFrame, Malformed as IsMalformed}
use Rattle.cf_peer.specs.declared.mode.Mode.TheVariants.{Following}
use Rattle.cf_wires.specs.declared.event.Delivery.TheVariants.{Got, Gone, Tick, Ended}
use Rattle.cf_wires.specs.declared.event.Event.{Event}
use Rattle.cf_wires.specs.declared.event.Event.TheVariants.{Dialled, NotDialled, Sent, SendFailed, Closed, Took}
use Rattle.cf_wires.specs.declared.event.Mark.TheVariants as mark
use Rattle.cf_wires.specs.Log.{Log}
use Rattle.cf_peer.specs.Trail.{Trail, Part, Said, Refused, Asked, Passed, Lost, called_part, with_item, item_of, item_of_read, hears, hears_fault, part_after, heard_part, spelled, asks, part_of, trail, is_connected, own}
use Rattle.cf_peer.specs.Asking.{NothingOpen, FiltersOpen, blocks_from, claims, given_filters, given_by, hash_claimed, request, fault_of, verdict, counted, MayAskIn}
use Rattle.cf_headers.proofs.Found.{back_ends}
use Rattle.cf_sync.specs.Blame.{WasAskedSince}
use Rattle.cf_sync.specs.Fetching.{IsAlone, IsConnected, blocks_in, IsFetchedHash, IsNew, IsTest, IsTested, IsTestOf, MaySendIn, RightlyIn, test_after}
use Rattle.cf_sync.proofs.Blamed.{tested_stays}
use Rattle.cf_sync.proofs.Counted.{first_none, same_use}
use Rattle.cf_sync.proofs.Entries.{at_either}
use Rattle.cf_sync.specs.Planned.{IsPlanned, is_untold}
use Rattle.cf_sync.proofs.FreshFilters.{AreComing, AreFresh, IsItsOwn, are_fresh, coming_asked, coming_first, coming_passed, coming_said, its_own, same_part}
use Rattle.cf_sync.proofs.Listed.{in_left, in_right, reverse_in}
use Rattle.cf_sync.proofs.Once.{still_connected}
use Rattle.cf_sync.proofs.Remembers.{AskedRightlyIn, asked_rightly_in}
use Rattle.cf_sync.proofs.Grows.{said_gives}

-- ---- the last block of a range

-- the tip of a part stands in each range that ends with it
pub tip_last : (start : ℕ) (part : Chain) → 1 ≤ start → start ≤ length part → IsIn (tip_hash part) (blocks_from start part)
tip_last start [] low high = absurd (omega (arith, low, high))
tip_last zero (h ∷ below) low high = absurd (omega (arith, low))
tip_last (suc n) (h ∷ below) low high = from (suc (length below) - n) (omega (arith, high)) where
  named : (h : Header) (hs : List Header) → IsIn h hs → IsIn (block_hash_of h) (map block_hash_of hs)
  named h [] i = absurd i
  named h (x ∷ hs) (inl e) = inl (ap block_hash_of e)
  named h (x ∷ hs) (inr i) = inr (named h hs i)

  from : (k : ℕ) → 1 ≤ k → IsIn (block_hash_of h) (map block_hash_of (reverse (take k (h ∷ below))))
  from zero some = absurd (omega (arith, some))
  from (suc k) some = named h (reverse (h ∷ take k below)) (reverse_in h (h ∷ take k below) (inl refl))

-- a range of one block has no other
pub tip_only : (part : Chain) (block : Hash) → IsIn block (blocks_from (length part) part) → block ≡ tip_hash part
tip_only [] block i = absurd i
tip_only (h ∷ below) block i = (let e : suc (length below) - length below ≡ 1 = omega arith in one (subst (λ (k : ℕ). IsIn block (map block_hash_of (reverse (take k (h ∷ below))))) e i)) where
  one : IsIn block (map block_hash_of (reverse (h ∷ []))) → block ≡ block_hash_of h
  one (inl e) = e
  one (inr none) = absurd none

-- ---- through a piece

-- a frame that deserves a cause isn't forgotten
clean_before : (fs : List Frame) (t : Trail) → verdict (hears fs t) ≡ None → verdict t ≡ None
clean_before [] t clean = clean
clean_before (f ∷ fs) t clean = by (message_of f) (clean_before fs (item_of f ∷ t) clean) where
  by : (r : _) → verdict (item_of_read r ∷ t) ≡ None → verdict t ≡ None
  by (Ok m) e = (first_none (verdict t) (fault_of m t) e).0
  by (Err x) e = (first_none (verdict t) (Some IsMalformed) e).0

abbrev IsClean : Trail → Type 0
IsClean t = (is_connected t ≡ true) × (verdict t ≡ None)

-- a connected peer that deserves nothing after a piece deserved nothing before it
was_clean : (r : StreamRead) (t : Trail) → IsClean (part_after r t).trail → IsClean t
was_clean r t s = by r.fault s where
  by : (o : Option FrameFault) → IsClean (hears_fault o (hears r.frames t)) → IsClean t
  by None s = (still_connected r.frames t s.0, clean_before r.frames t s.1)
  by (Some fault) s = (still_connected r.frames t s.0, clean_before r.frames t (first_none (verdict (hears r.frames t)) (Some BadFrame) s.1).0)

-- what each message keeps is kept by a piece
module _ (P : Trail → Type 0) (said : (m : Msg) (t : Trail) → is_connected t ≡ true → verdict (Said m ∷ t) ≡ None → AreFresh t → P t → P (Said m ∷ t)) where
  through_frames : (fs : List Frame) (t : Trail) → IsClean (hears fs t) → AskedRightlyIn Following t → P t → P (hears fs t)
  through_frames [] t s right h = h
  through_frames (f ∷ fs) t s right h = elim (message_of f) as (λ r. IsClean (hears fs (item_of_read r ∷ t)) → P (hears fs (item_of_read r ∷ t))) [
    | Ok m ↦ λ s1. (
        let clean : verdict (Said m ∷ t) ≡ None = clean_before fs (Said m ∷ t) s1.1 in
        let on : is_connected t ≡ true = still_connected fs (Said m ∷ t) s1.0 in
        through_frames fs (Said m ∷ t) s1 right (said m t on clean (are_fresh t on (first_none (verdict t) (fault_of m t) clean).0 right) h)
        )
    | Err x ↦ λ s1. absurd (let no = (first_none (verdict t) (Some IsMalformed) (clean_before fs (Refused IsMalformed ∷ t) s1.1)).1 in cc)
  ] s

  through : (r : StreamRead) (t : Trail) → IsClean (part_after r t).trail → AskedRightlyIn Following t → P t → P (part_after r t).trail
  through r t s right h = by r.fault s where
    by : (o : Option FrameFault) → IsClean (hears_fault o (hears r.frames t)) → P (hears_fault o (hears r.frames t))
    by None s1 = through_frames r.frames t s1 right h
    by (Some fault) s1 = absurd (let no = (first_none (verdict (hears r.frames t)) (Some BadFrame) s1.1).1 in cc)

-- the filters of the blocks are coming, or came since there were these
record AreSince (base : List Job) (blocks : List Hash) (t : Trail) : Type 0 where
  news : List Job
  joined : given_filters (counted t) ≡ news ++ base
  since : AreComing t blocks ⊎ ((block : Hash) → IsIn block blocks → (job : Job) × IsIn job news × (job.block.0 ≡ block) × IsItsOwn t job)

since_said : (base : List Job) (blocks : List Hash) (m : Msg) (t : Trail) → is_connected t ≡ true → verdict (Said m ∷ t) ≡ None → AreFresh t → AreSince base blocks t → AreSince base blocks (Said m ∷ t)
since_said base blocks m t on clean fresh w = record {
  news = given_by m (request t) ++ w.news;
  joined = said_gives m t on clean ∙ ap (λ (js : List Job). given_by m (request t) ++ js) w.joined ∙ sym (append_assoc (given_by m (request t)) w.news base);
  since = elim w.since [
    | inl coming ↦ elim (coming_said m t blocks on clean fresh coming) [
      | inl more ↦ inl more
      | inr now ↦ inr (λ x i. (let g = now x i in (g.0, in_left g.0 (given_by m (request t)) w.news g.1, g.2, g.3)))
    ]
    | inr came ↦ inr (λ x i. (let g = came x i in (g.0, in_right g.0 (given_by m (request t)) w.news g.1, g.2, its_own m t fresh g.0 g.3)))
  ];
}

-- ---- along a log

-- a range up to the tip of a part of a chain
record IsTipped (start : ℕ) (stop : Hash) : Type 0 where
  part : Chain
  tip : tip_hash part ≡ stop
  low : 1 ≤ start
  high : start ≤ length part

-- since the block at the stop was fetched the filters of a range up to it were asked for: they are coming, or that of the block was tested
abbrev IsTried : Log → ℕ → ℕ → Hash → Trail → Type 0
IsTried log p start stop t =
    (w : IsTipped start stop)
    × ((IsTest log p stop × AreComing t (blocks_from start w.part)) ⊎ ((job : Job) × IsTested log job × (job.block.0 ≡ stop) × IsItsOwn t job))

tried_on : (e : Event) (log : Log) (p start : ℕ) (stop : Hash) (t : Trail) → (IsTest log p stop → IsTest (e ∷ log) p stop) → IsTried log p start stop t → IsTried (e ∷ log) p start stop t
tried_on e log p start stop t test w = (w.0, elim w.1 [ inl c ↦ inl (test c.0, c.1) | inr g ↦ inr (g.0, tested_stays e log g.0 g.1, g.2, g.3) ])

-- a message that may be sent asks for no other filters while some are coming
test_stays : (n : Msg) (t : Trail) (log : Log) (block : Hash) (left : List Hash) (came : List Job) (before : Type 0) → MayAskIn Following t n → request t ≡ FiltersOpen left came → before → test_after true (Some n) log block before
test_stays (GetCfilters filter start stop) t log block left came before may e x = absurd (let no : FiltersOpen left came ≡ NothingOpen = sym e ∙ may.0.idle in cc)
test_stays n t log block left came before may e x = x

tried_asked : (q : PeerNo) (bytes : List ℕ) (n : Msg) (log : Log) (p start : ℕ) (stop : Hash) (t : Trail) → q.0 ≡ p → spelled bytes ≡ Some n → MayAskIn Following t n → IsTried log p start stop t
    → IsTried (Sent q bytes ∷ log) p start stop (Asked n ∷ t)
tried_asked q bytes n log p start stop t here is may w = (
  w.0,
  elim w.1 [
    | inl c ↦ inl (
      subst (λ (b : Bool). test_after b (spelled bytes) log stop (IsTest log p stop)) (sym (eq-eqb q.0 p here))
          (subst (λ (o : Option Msg). test_after true o log stop (IsTest log p stop)) (sym is)
          (test_stays n t log stop c.1.left c.1.came (IsTest log p stop) may c.1.is c.0)),
      coming_asked n t (blocks_from start w.0.part) may c.1,
    )
    | inr g ↦ inr (g.0, tested_stays (Sent q bytes) log g.0 g.1, g.2, g.3)
  ],
)

tried_first : (q : PeerNo) (bytes : List ℕ) (log : Log) (p filter start : ℕ) (stop : Hash32) (t : Trail) → q.0 ≡ p → spelled bytes ≡ Some (GetCfilters filter start stop) → MayAskIn Following t (GetCfilters filter start stop)
    → IsFetchedHash log stop.0 → IsTried (Sent q bytes ∷ log) p start stop.0 (Asked (GetCfilters filter start stop) ∷ t)
tried_first q bytes log p filter start stop t here is may fetched = (
  record { part = may.1.0.part; tip = back_ends stop.0 (own t) may.1.0.part may.1.0.tip; low = may.1.0.low; high = may.1.0.high },
  inl (
    subst (λ (b : Bool). test_after b (spelled bytes) log stop.0 (IsTest log p stop.0)) (sym (eq-eqb q.0 p here))
        (subst (λ (o : Option Msg). test_after true o log stop.0 (IsTest log p stop.0)) (sym is) fetched),
    coming_first filter start stop t may.1.0.part may.1.0.tip,
  ),
)

tried_passed : (s : ℕ) (log : Log) (p start : ℕ) (stop : Hash) (t : Trail) → IsTried log p start stop t → IsTried log p start stop (Passed s ∷ t)
tried_passed s log p start stop t w =
    (w.0, elim w.1 [ inl c ↦ inl (c.0, coming_passed s t (blocks_from start w.0.part) c.1) | inr g ↦ inr g ])

-- in a piece of the peer's bytes
tried_heard : (q : PeerNo) (piece : List ℕ) (log : Log) (p start : ℕ) (stop : Hash) → (q.0 == p) ≡ true → IsClean (heard_part piece (part_of log p)).trail → AskedRightlyIn Following (trail log p)
    → IsTried log p start stop (trail log p) → IsTried (Took (Got q piece) ∷ log) p start stop (heard_part piece (part_of log p)).trail
tried_heard q piece log p start stop is s right w = (
  w.0,
  elim w.1 [
    | inl c ↦ (
        let base : List Job = given_filters (counted (trail log p)) in
        let a = through (AreSince base blocks) (since_said base blocks) r (trail log p) s right (record { news = []; joined = refl; since = inl c.1 }) in
        elim a.since [
          | inl coming ↦ inl (c.0, coming)
          | inr came ↦ (let g = came stop last in inr (g.0, inl (now c.0 a.news g.0 a.joined g.1 g.2), g.2, g.3))
        ]
        )
    | inr g ↦ inr (g.0, inr g.1, g.2, through (λ (u : Trail). IsItsOwn u g.0) (λ m u on clean fresh own_one. its_own m u fresh g.0 own_one) r (trail log p) s right g.3)
  ],
) where
  r : StreamRead
  r = read_stream ((part_of log p).waits ++ piece)

  blocks : List Hash
  blocks = blocks_from start w.0.part

  last : IsIn stop blocks
  last = subst (λ (x : Hash). IsIn x blocks) w.0.tip (tip_last start w.0.part w.0.low w.0.high)

  now : IsTest log p stop → (news : List Job) (job : Job) → given_filters (counted (heard_part piece (part_of log p)).trail) ≡ news ++ given_filters (counted (trail log p)) → IsIn job news → job.block.0 ≡ stop
      → IsTest log q.0 job.block.0 × IsNew (Took (Got q piece)) log q.0 job
  now test news job joined among of_stop =
      subst (λ (k : ℕ). IsTest log k job.block.0 × IsNew (Took (Got q piece)) log k job) (sym (eqb-true q.0 p is)) (
        subst (λ (x : Hash). IsTest log p x) (sym of_stop) test,
        record { news = news; joined = ap (λ (b : Bool). given_filters (counted (if b then heard_part piece (part_of log p) else part_of log p).trail)) is ∙ joined; among = among },
      )

abbrev IsTriedIn : Event → Log → ℕ → ℕ → Hash → Part → Type 0
IsTriedIn e log p start stop part = IsClean part.trail → IsTried (e ∷ log) p start stop part.trail

same_message : (o : Option Msg) (m n : Msg) → o ≡ Some m → o ≡ Some n → m ≡ n
same_message o m n e f = (let both : Some m ≡ Some n = sym e ∙ f in cc)

is_tried : (log : Log) (p filter start : ℕ) (stop : Hash32) → RightlyIn Following log → WasAskedSince log p (GetCfilters filter start stop) stop.0 → IsClean (trail log p) → IsTried log p start stop.0 (trail log p)
is_tried [] p filter start stop right was s = absurd was
is_tried (Dialled q name ∷ log) p filter start stop right was s =
    at_either (IsTriedIn (Dialled q name) log p start stop.0) (q.0 == p) (called_part (part_of log p)) (part_of log p)
    (λ is u. absurd (was.0 (eqb-true q.0 p is)))
    (λ off u. tried_on (Dialled q name) log p start stop.0 (trail log p) (λ x. x) (is_tried log p filter start stop right was.1 u)) s
is_tried (NotDialled q name ∷ log) p filter start stop right was s =
    at_either (IsTriedIn (NotDialled q name) log p start stop.0) (q.0 == p) (with_item (Lost mark.NotDialled) (part_of log p)) (part_of log p)
    (λ is u. absurd (false≢true u.0))
    (λ off u. tried_on (NotDialled q name) log p start stop.0 (trail log p) (λ x. x) (is_tried log p filter start stop right was u)) s
is_tried (SendFailed q ∷ log) p filter start stop right was s =
    at_either (IsTriedIn (SendFailed q) log p start stop.0) (q.0 == p) (with_item (Lost mark.SendFailed) (part_of log p)) (part_of log p)
    (λ is u. absurd (false≢true u.0))
    (λ off u. tried_on (SendFailed q) log p start stop.0 (trail log p) (λ x. x) (is_tried log p filter start stop right was u)) s
is_tried (Closed q ∷ log) p filter start stop right was s =
    at_either (IsTriedIn (Closed q) log p start stop.0) (q.0 == p) (with_item (Lost mark.Closed) (part_of log p)) (part_of log p)
    (λ is u. absurd (false≢true u.0))
    (λ off u. tried_on (Closed q) log p start stop.0 (trail log p) (λ x. x) (is_tried log p filter start stop right.1 was u)) s
is_tried (Took (Gone q) ∷ log) p filter start stop right was s =
    at_either (IsTriedIn (Took (Gone q)) log p start stop.0) (q.0 == p) (with_item (Lost mark.Gone) (part_of log p)) (part_of log p)
    (λ is u. absurd (false≢true u.0))
    (λ off u. tried_on (Took (Gone q)) log p start stop.0 (trail log p) (λ x. x) (is_tried log p filter start stop right.1 was u)) s
is_tried (Took (Tick n) ∷ log) p filter start stop right was s =
    tried_on (Took (Tick n)) log p start stop.0 (Passed n ∷ trail log p) (λ x. x) (tried_passed n log p start stop.0 (trail log p) (is_tried log p filter start stop right.1 was s))
is_tried (Took Ended ∷ log) p filter start stop right was s =
    tried_on (Took Ended) log p start stop.0 (trail log p) (λ x. x) (is_tried log p filter start stop right.1 was s)
is_tried (Took (Got q piece) ∷ log) p filter start stop right was s =
    at_either (IsTriedIn (Took (Got q piece)) log p start stop.0) (q.0 == p) (heard_part piece (part_of log p)) (part_of log p)
    (λ is u. tried_heard q piece log p start stop.0 is u (asked_rightly_in Following log p right.1)
    (is_tried log p filter start stop right.1 was (was_clean (read_stream ((part_of log p).waits ++ piece)) (trail log p) u)))
    (λ off u. tried_on (Took (Got q piece)) log p start stop.0 (trail log p) (λ x. x) (is_tried log p filter start stop right.1 was u)) s
is_tried (Sent q bytes ∷ log) p filter start stop right (inl first_one) s =
    at_either (IsTriedIn (Sent q bytes) log p start stop.0) (q.0 == p) (record (part_of log p) { trail = asks (spelled bytes) (trail log p) }) (part_of log p)
    (λ is u.
    let same : right.0.0 ≡ GetCfilters filter start stop = same_message (spelled bytes) right.0.0 (GetCfilters filter start stop) right.0.1 first_one.2 in
    let may : MayAskIn Following (trail log p) (GetCfilters filter start stop) =
    subst (λ (m : Msg). MayAskIn Following (trail log p) m) same (subst (λ (k : ℕ). MayAskIn Following (trail log k) right.0.0) first_one.1 right.0.2.of_its_part) in
    subst (λ (o : Option Msg). IsTried (Sent q bytes ∷ log) p start stop.0 (asks o (trail log p))) (sym first_one.2)
    (tried_first q bytes log p filter start stop (trail log p) first_one.1 first_one.2 may first_one.0))
    (λ off u. absurd (false≢true (sym off ∙ eq-eqb q.0 p first_one.1))) s
is_tried (Sent q bytes ∷ log) p filter start stop right (inr was) s =
    at_either (IsTriedIn (Sent q bytes) log p start stop.0) (q.0 == p) (record (part_of log p) { trail = asks (spelled bytes) (trail log p) }) (part_of log p)
    (λ is u.
    let here : q.0 ≡ p = eqb-true q.0 p is in
    let may : MayAskIn Following (trail log p) right.0.0 = subst (λ (k : ℕ). MayAskIn Following (trail log k) right.0.0) here right.0.2.of_its_part in
    let before : IsClean (trail log p) = subst (λ (o : Option Msg). IsClean (asks o (trail log p))) right.0.1 u in
    subst (λ (o : Option Msg). IsTried (Sent q bytes ∷ log) p start stop.0 (asks o (trail log p))) (sym right.0.1)
    (tried_asked q bytes right.0.0 log p start stop.0 (trail log p) here right.0.1 may (is_tried log p filter start stop right.1 was before)))
    (λ off u. tried_on (Sent q bytes) log p start stop.0 (trail log p)
    (λ x. subst (λ (b : Bool). test_after b (spelled bytes) log stop.0 (IsTest log p stop.0)) (sym off) x) (is_tried log p filter start stop right.1 was u)) s

-- ---- what is to be tested is asked for whatever is open

pub test_alone : (log : Log) (p filter start : ℕ) (stop : Hash32) → IsTestOf log p start stop.0 → IsAlone log p (GetCfilters filter start stop)
test_alone log p filter start stop test block i none stands =
    let j : IsIn block (blocks_from start test.part) = subst (λ (o : Option Chain). IsIn block (blocks_in start o)) test.tip i in
    let k : IsIn block (blocks_from (length test.part) test.part) = subst (λ (n : ℕ). IsIn block (blocks_from n test.part)) test.one j in
    let is : block ≡ stop.0 = tip_only test.part block k ∙ back_ends stop.0 (own (trail log p)) test.part test.tip in
    none (subst (λ (x : Hash). IsFetchedHash log x) (sym is) test.wanted.fetched)

-- ---- so it isn't asked for again

-- to be tested by a log in which p's part is the same, and that has the same tests
tests_not_by : (planned log : Log) (p : ℕ) → RightlyIn Following log → IsConnected log p → verdict (trail log p) ≡ None
    → part_of planned p ≡ part_of log p → ((job : Job) → IsTested log job → IsTested planned job)
    → (filter start : ℕ) (stop : Hash32) → MaySendIn Following log p (GetCfilters filter start stop) → IsTestOf planned p start stop.0
    → WasAskedSince log p (GetCfilters filter start stop) stop.0 → ⊥
tests_not_by planned log p right on clean one tests filter start stop may test was =
    let t : Trail = trail log p in
    let w = is_tried log p filter start stop right was (on, clean) in
    elim w.1 [
      | inl c ↦ (let d = c.1 in absurd (let no : FiltersOpen d.left d.came ≡ NothingOpen = sym d.is ∙ may.of_its_part.0.idle in cc))
      | inr got ↦ (
          let claimed : hash_claimed (claims (counted t)) stop.0 ≡ Some test.wanted.hash =
          subst (λ (q : Part). hash_claimed (claims (counted q.trail)) stop.0 ≡ Some test.wanted.hash) one test.wanted.claimed in
          let mine : Some got.3.0.hash ≡ Some test.wanted.hash =
          sym (ap (λ (o : Option Claim). option_map (λ (c : Claim). c.hash) o) (sym (ap (claims t) got.2) ∙ got.3.1)) ∙ sym (ap (λ (c : Table). hash_claimed c stop.0) (same_use t on clean).claiming) ∙ claimed in
          let hash : got.3.0.hash ≡ test.wanted.hash = cc in
          test.wanted.untested (record { filter = got.0; tested = tests got.0 got.1; of_block = got.2; this = sym got.3.2 ∙ ap (λ (h : Hash32). h.0) hash })
          )
    ]

pub tests_not_again : (log : Log) (p : ℕ) → RightlyIn Following log → IsConnected log p → verdict (trail log p) ≡ None
    → (filter start : ℕ) (stop : Hash32) → MaySendIn Following log p (GetCfilters filter start stop) → IsTestOf log p start stop.0 → WasAskedSince log p (GetCfilters filter start stop) stop.0 → ⊥
tests_not_again log p right on clean = tests_not_by log log p right on clean refl (λ job tested. tested)

-- nor where a client is to test it that isn't told yet of some failed sends
pub tests_not_planned : (planned log : Log) (p : ℕ) → RightlyIn Following log → IsConnected log p → verdict (trail log p) ≡ None
    → IsPlanned planned log → is_untold log p ≡ false
    → (filter start : ℕ) (stop : Hash32) → MaySendIn Following log p (GetCfilters filter start stop) → IsTestOf planned p start stop.0
    → WasAskedSince log p (GetCfilters filter start stop) stop.0 → ⊥
tests_not_planned planned log p right on clean is told =
    tests_not_by planned log p right on clean (same_part planned log p on is told) is.tests
