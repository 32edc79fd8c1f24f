-- What is kept of tests goes on with the log, whatever comes.
use Rattle.std.proofs.Common.{◌≡◌, ◌≢◌, ◌⊎◌, inl, inr, ℕ, suc, ◌-◌, ◌≤◌, List, [], ◌∷◌, ◌++◌, map, length, take, reverse, Option, Some, None, Bool, true, false, ◌==◌, if◌then◌else◌, refl, sym, ◌∙◌, ap, subst, arith}
use Rattle.std.specs.Prelude.{◌&&◌, IsSome, unwrap_or}
use Rattle.std.proofs.lemmas.Grind.{common_steps}
use Rattle.std.proofs.lemmas.Bool.{both_ways, cases_Bool, cases_eq, eq-eqb, eqb-true, false≢true, ne_eqb}
use Rattle.std.proofs.lemmas.List.{append_cancel_right, length-map}
use Rattle.cf_bytes.specs.declared.hash.Hash32.{Hash32}
use Rattle.cf_bytes.specs.declared.peer.PeerNo.{PeerNo}
use Rattle.cf_block.specs.declared.tx.Block.{Block}
use Rattle.cf_frame.specs.Stream.{StreamRead, read_stream}
use Rattle.cf_block.specs.Header.{block_hash_of}
use Rattle.cf_headers.specs.Chain.{Hash, Chain, IsIn, back_to}
use Rattle.cf_match.specs.declared.job.Job.{Job}
use Rattle.cf_msg.specs.declared.msg.Msg.{Msg}
use Rattle.cf_msg.specs.declared.msg.Inventory.{Inventory}
use Rattle.cf_msg.specs.declared.msg.Msg.TheVariants.{GetHeaders, Headers, GetData, Block as BlockMessage, GetCfheaders, Cfheaders, GetCfilters, Cfilter, Ping, Pong}
use Rattle.cf_wires.specs.declared.event.Delivery.TheVariants.{Got, Gone, Tick, Ended}
use Rattle.cf_wires.specs.declared.event.Event.{Event}
use Rattle.cf_wires.specs.declared.event.Event.TheVariants.{Dialled, NotDialled, Sent, SendFailed, Closed, Took}
use Rattle.cf_wires.specs.declared.event.Mark.TheVariants as mark
use Rattle.cf_wires.specs.Log.{Log}
use Rattle.cf_peer.specs.Trail.{Trail, Part, Said, Lost, called_part, with_item, part_after, heard_part, part_of, trail, went_on, asks, spelled, is_connected, own}
use Rattle.cf_peer.specs.Asking.{OpenRequest, NothingOpen, HeadersOpen, ClaimsOpen, FiltersOpen, BlockOpen, PingOpen, block_asked, blocks_from, claims_asked, filter_of, filters_asked, is_answer_of, is_committed, is_wanted, request, request_after, counted, fetched_blocks, fetched_by, given_filters, given_by}
use Rattle.cf_filter.specs.Lacking.{output_items_of}
use Rattle.cf_headers.specs.Rules.{same}
use Rattle.cf_tables.specs.Outputs.{Paid, lacks_kept}
use Rattle.cf_tables.specs.Tests.{IsSameTold}
use Rattle.cf_tables.specs.Known.{TestResults}
use Rattle.cf_tables.specs.Trials.{Trials, TrialsGo, tested_if, with_paid}
use Rattle.cf_sync.specs.Fetching.{AreFiltersWanted, IsConnected, IsFetchedHash, IsNoPiece, IsTest, IsTested, IsTestedWith, IsTestOf, IsSameFetched, blocks_in, counted_part, filters_open, test_after}
use Rattle.cf_holds.specs.HeldTests.{AimsAt, AreClean, HoldsOutputs, HoldsTrials, IsNoSend}
use Rattle.cf_holds.specs.Known.{HoldsTests}
use Rattle.cf_headers.proofs.Found.{back_ends}
use Rattle.cf_sync.proofs.Deaf.{heard_deaf, heard_on}
use Rattle.cf_sync.proofs.Entries.{at_either}
use Rattle.cf_sync.proofs.FreshTests.{tip_only}
use Rattle.cf_sync.proofs.Idle.{no_block, no_filter, nothing_after, through_piece}
use Rattle.cf_holds.proofs.KeptTests.{TestsNone, clean_on, clean_stays, no_piece_tests, one_tested, outputs_grow, outputs_stay, tests_stay}
use Rattle.cf_sync.proofs.Once.{answered}
use Rattle.cf_sync.proofs.SameFetched.{no_piece_brings, same_fetched, same_fetched_back, same_fetched_hash}
use Rattle.cf_sync.specs.Planned.{Alike, IsSameTest}

-- ---- what a message leaves open, and what it brings

-- the same filters are open as before, or none
abbrev pub OnlyEnds : List Hash → List Hash → Type 0
OnlyEnds after before = (after ≡ before) ⊎ (after ≡ [])

ends_then : (a b c : List Hash) → OnlyEnds b a → OnlyEnds c b → OnlyEnds c a
ends_then a b c one (inr none) = inr none
ends_then a b c (inl before) (inl now) = inl (now ∙ before)
ends_then a b c (inr before) (inl now) = inr (now ∙ before)

within : (after before : List Hash) (block : Hash) → OnlyEnds after before → IsIn block after → IsIn block before
within after before block (inl e) i = subst (λ (xs : List Hash). IsIn block xs) e i
within after before block (inr none) i = absurd (subst (λ (xs : List Hash). IsIn block xs) none i)

ends_if : (b : Bool) (x y : OpenRequest) (before : List Hash) → (b ≡ true → OnlyEnds (filters_open x) before) → (b ≡ false → OnlyEnds (filters_open y) before)
    → OnlyEnds (filters_open (if b then x else y)) before
ends_if true x y before is off = is refl
ends_if false x y before is off = off refl

-- the filter that came moves over
moved_over : (came : List Job) (j : Job) (next : Hash) (left : List Hash) → j.block.0 ≡ next
    → map (λ (j : Job). j.block.0) (came ++ j ∷ []) ++ left ≡ map (λ (j : Job). j.block.0) came ++ next ∷ left
moved_over [] j next left e = ap (λ (h : Hash). h ∷ left) e
moved_over (c ∷ came) j next left e = ap (λ (hs : List Hash). c.block.0 ∷ hs) (moved_over came j next left e)

last_over : (came : List Job) (j : Job) (next : Hash) → j.block.0 ≡ next → map (λ (j : Job). j.block.0) (came ++ j ∷ []) ≡ map (λ (j : Job). j.block.0) came ++ next ∷ []
last_over [] j next e = ap (λ (h : Hash). h ∷ []) e
last_over (c ∷ came) j next e = ap (λ (hs : List Hash). c.block.0 ∷ hs) (last_over came j next e)

open_said : (m : Msg) (r : OpenRequest) → OnlyEnds (filters_open (request_after m r)) (filters_open r)
open_said (Headers hs) NothingOpen = inl refl
open_said (Headers hs) HeadersOpen = inl refl
open_said (Headers hs) (ClaimsOpen stop parent bs) = inl refl
open_said (Headers hs) (FiltersOpen left came) = inl refl
open_said (Headers hs) (BlockOpen wanted) = inl refl
open_said (Cfheaders filter stop previous hashes) NothingOpen = inl refl
open_said (Cfheaders filter stop previous hashes) HeadersOpen = inl refl
open_said (Cfheaders filter stop previous hashes) (ClaimsOpen wanted parent bs) =
    ends_if (is_answer_of filter stop.0 wanted) NothingOpen (ClaimsOpen wanted parent bs) [] (λ is. inl refl) (λ off. inl refl)
open_said (Cfheaders filter stop previous hashes) (FiltersOpen left came) = inl refl
open_said (Cfheaders filter stop previous hashes) (BlockOpen wanted) = inl refl
open_said (Cfilter filter b bytes) NothingOpen = inl refl
open_said (Cfilter filter b bytes) HeadersOpen = inl refl
open_said (Cfilter filter b bytes) (ClaimsOpen stop parent bs) = inl refl
open_said (Cfilter filter b bytes) (FiltersOpen [] came) = inl refl
open_said (Cfilter filter b bytes) (FiltersOpen (next ∷ []) came) =
    ends_if (is_answer_of filter b.0 next) NothingOpen (FiltersOpen (next ∷ []) came) (map (λ (j : Job). j.block.0) came ++ next ∷ []) (λ is. inr refl) (λ off. inl refl)
open_said (Cfilter filter b bytes) (FiltersOpen (next ∷ x ∷ left) came) =
    ends_if (is_answer_of filter b.0 next) (FiltersOpen (x ∷ left) (came ++ filter_of b bytes ∷ [])) (FiltersOpen (next ∷ x ∷ left) came)
    (map (λ (j : Job). j.block.0) came ++ next ∷ x ∷ left)
    (λ is. inl (moved_over came (filter_of b bytes) next (x ∷ left) (answered filter b.0 next is))) (λ off. inl refl)
open_said (Cfilter filter b bytes) (BlockOpen wanted) = inl refl
open_said (BlockMessage b) NothingOpen = inl refl
open_said (BlockMessage b) HeadersOpen = inl refl
open_said (BlockMessage b) (ClaimsOpen stop parent bs) = inl refl
open_said (BlockMessage b) (FiltersOpen left came) = inl refl
open_said (BlockMessage b) (BlockOpen wanted) = ends_if (is_wanted b wanted) NothingOpen (BlockOpen wanted) [] (λ is. inl refl) (λ off. inl refl)
open_said (Pong number) NothingOpen = inl refl
open_said (Pong number) HeadersOpen = inl refl
open_said (Pong number) (ClaimsOpen stop parent bs) = inl refl
open_said (Pong number) (FiltersOpen left came) = inl refl
open_said (Pong number) (BlockOpen wanted) = inl refl
open_said (Pong number) (PingOpen wanted) =
    ends_if (number == wanted) NothingOpen (PingOpen wanted) [] (λ is. inl refl) (λ off. inl refl)
open_said m r = inl refl

-- an answer brings one block at most, or the filters that were open
pub record IsAnswer (news : List Block) (jobs : List Job) (due : List Hash) : Type 0 where
  pub few : length news ≤ 1
  pub asked : (jobs ≡ []) ⊎ (map (λ (j : Job). j.block.0) jobs ≡ due)

-- a message brings nothing, or ends the request
abbrev pub Brings : List Block → List Job → OpenRequest → List Hash → Type 0
Brings news jobs after due = ((news ≡ []) × (jobs ≡ [])) ⊎ ((after ≡ NothingOpen) × IsAnswer news jobs due)

pub brings_said : (m : Msg) (r : OpenRequest) → Brings (fetched_by m r) (given_by m r) (request_after m r) (filters_open r)
brings_said (Cfilter filter b bytes) NothingOpen = inl (refl, refl)
brings_said (Cfilter filter b bytes) HeadersOpen = inl (refl, refl)
brings_said (Cfilter filter b bytes) (ClaimsOpen stop parent bs) = inl (refl, refl)
brings_said (Cfilter filter b bytes) (FiltersOpen [] came) = inl (refl, refl)
brings_said (Cfilter filter b bytes) (FiltersOpen (next ∷ []) came) = by (is_answer_of filter b.0 next) refl where
  by : (x : Bool) → is_answer_of filter b.0 next ≡ x
      → Brings [] (if x then came ++ filter_of b bytes ∷ [] else []) (if x then NothingOpen else FiltersOpen (next ∷ []) came) (map (λ (j : Job). j.block.0) came ++ next ∷ [])
  by true is = inr (refl, record { few = omega arith; asked = inr (last_over came (filter_of b bytes) next (answered filter b.0 next is)) })
  by false off = inl (refl, refl)
brings_said (Cfilter filter b bytes) (FiltersOpen (next ∷ x ∷ left) came) = inl (refl, refl)
brings_said (Cfilter filter b bytes) (BlockOpen wanted) = inl (refl, refl)
brings_said (BlockMessage b) NothingOpen = inl (refl, refl)
brings_said (BlockMessage b) HeadersOpen = inl (refl, refl)
brings_said (BlockMessage b) (ClaimsOpen stop parent bs) = inl (refl, refl)
brings_said (BlockMessage b) (FiltersOpen left came) = inl (refl, refl)
brings_said (BlockMessage b) (BlockOpen wanted) = by (is_wanted b wanted) (is_committed b) where
  by : (w c : Bool) → Brings (if w && c then b ∷ [] else []) [] (if w then NothingOpen else BlockOpen wanted) []
  by true true = inr (refl, record { few = omega arith; asked = inl refl })
  by true false = inl (refl, refl)
  by false c = inl (refl, refl)
brings_said m r = inl (refl, refl)

none_of : (jobs : List Job) → map (λ (j : Job). j.block.0) jobs ≡ [] → jobs ≡ []
none_of [] e = refl
none_of (j ∷ jobs) e = cc

answer_on : (news : List Block) (jobs : List Job) (after before : List Hash) → OnlyEnds after before → IsAnswer news jobs after → IsAnswer news jobs before
answer_on news jobs after before ends a = record { few = a.few; asked = by ends a.asked } where
  by : OnlyEnds after before → (jobs ≡ []) ⊎ (map (λ (j : Job). j.block.0) jobs ≡ after) → (jobs ≡ []) ⊎ (map (λ (j : Job). j.block.0) jobs ≡ before)
  by ends (inl none) = inl none
  by (inl e) (inr is) = inr (is ∙ e)
  by (inr none) (inr is) = inl (none_of jobs (is ∙ none))

-- ---- along a piece

-- what was brought since a trail
pub record HasBrought (t c : Trail) : Type 0 where
  pub news : List Block
  pub blocks : fetched_blocks c ≡ news ++ fetched_blocks (counted t)
  pub jobs : List Job
  pub filters : given_filters c ≡ jobs ++ given_filters (counted t)
  pub answer : IsAnswer news jobs (filters_open (request (counted t)))

-- nothing yet, or what ended the request
abbrev pub HasAnswered : Trail → Trail → Type 0
HasAnswered t c =
    ((fetched_blocks c ≡ fetched_blocks (counted t)) × (given_filters c ≡ given_filters (counted t)) × OnlyEnds (filters_open (request c)) (filters_open (request (counted t))))
    ⊎ ((request c ≡ NothingOpen) × HasBrought t c)

said_on : (m : Msg) (t c : Trail) → HasAnswered t c → HasAnswered t (Said m ∷ c)
said_on m t c (inl s) = elim (brings_said m (request c)) [
  | inl none ↦ inl (
    ap (λ (bs : List Block). bs ++ fetched_blocks c) none.0 ∙ s.0,
    ap (λ (js : List Job). js ++ given_filters c) none.1 ∙ s.1,
    ends_then (filters_open (request (counted t))) (filters_open (request c)) (filters_open (request_after m (request c))) s.2 (open_said m (request c)),
  )
  | inr ends ↦ inr (
    ends.0,
    record {
      news = fetched_by m (request c);
      blocks = ap (λ (bs : List Block). fetched_by m (request c) ++ bs) s.0;
      jobs = given_by m (request c);
      filters = ap (λ (js : List Job). given_by m (request c) ++ js) s.1;
      answer = answer_on (fetched_by m (request c)) (given_by m (request c)) (filters_open (request c)) (filters_open (request (counted t))) s.2 ends.1;
    },
  )
]
said_on m t c (inr s) = inr (
  ap (request_after m) s.0 ∙ nothing_after m,
  record {
    news = s.1.news;
    blocks = ap (λ (bs : List Block). bs ++ fetched_blocks c) (ap (fetched_by m) s.0 ∙ no_block m) ∙ s.1.blocks;
    jobs = s.1.jobs;
    filters = ap (λ (js : List Job). js ++ given_filters c) (ap (given_by m) s.0 ∙ no_filter m) ∙ s.1.filters;
    answer = s.1.answer;
  },
)

rest_so : (r : StreamRead) (t : Trail) → HasAnswered t (counted (part_after r t).trail)
rest_so r t = through_piece (HasAnswered t) (λ m c. said_on m t c) r t (inl (refl, refl, inl refl))

pub got_here : (p : PeerNo) (piece : List ℕ) (part : Part) → went_on (Took (Got p piece)) p.0 part ≡ heard_part piece part
got_here p piece part = grind (arith, common_steps)

-- what a piece brings: nothing, or what ended the request
pub piece_brings : (p : PeerNo) (piece : List ℕ) (log : Log) → HasAnswered (trail log p.0) (counted_part (Took (Got p piece) ∷ log) p.0)
piece_brings p piece log =
    subst (λ (x : Part). HasAnswered (trail log p.0) (counted x.trail)) (sym (got_here p piece (part_of log p.0)))
    (rest_so (read_stream ((part_of log p.0).waits ++ piece)) (trail log p.0))

-- ---- what is open to a peer is to be tested, or isn't

aims_go : (log next : Log) (p : ℕ) (aim : Bool) → OnlyEnds (filters_open (request (counted_part next p))) (filters_open (request (counted_part log p)))
    → ((block : Hash) → IsTest log p block → IsTest next p block) → ((block : Hash) → IsTest next p block → IsTest log p block) → AimsAt log p aim → AimsAt next p aim
aims_go log next p aim ends to from a = record {
  few = λ on. fewer (filters_open (request (counted_part next p))) (filters_open (request (counted_part log p))) ends (a.few on);
  tests = λ on block i. to block (a.tests on block (within (filters_open (request (counted_part next p))) (filters_open (request (counted_part log p))) block ends i));
  judges = λ off block i t. a.judges off block (within (filters_open (request (counted_part next p))) (filters_open (request (counted_part log p))) block ends i) (from block t);
} where
  fewer : (after before : List Hash) → OnlyEnds after before → length before ≤ 1 → length after ≤ 1
  fewer after before (inl e) le = subst (λ (xs : List Hash). length xs ≤ 1) (sym e) le
  fewer after before (inr none) le = subst (λ (xs : List Hash). length xs ≤ 1) (sym none) (omega arith)

abbrev Ends : Log → ℕ → Part → Type 0
Ends log q part = OnlyEnds (filters_open (request (counted part.trail))) (filters_open (request (counted_part log q)))

piece_ends : (r : StreamRead) (t : Trail) → OnlyEnds (filters_open (request (counted (part_after r t).trail))) (filters_open (request (counted t)))
piece_ends r t = elim (rest_so r t) [ inl s ↦ s.2 | inr s ↦ inr (ap filters_open s.0) ]

-- nothing is open, so that nothing is to be tested
aims_none : (log : Log) (p : ℕ) (aim : Bool) → filters_open (request (counted_part log p)) ≡ [] → AimsAt log p aim
aims_none log p aim none = record {
  few = λ on. subst (λ (xs : List Hash). length xs ≤ 1) (sym none) (omega arith);
  tests = λ on block i. absurd (subst (λ (xs : List Hash). IsIn block xs) none i);
  judges = λ off block i t. absurd (subst (λ (xs : List Hash). IsIn block xs) none i);
}

-- who is connected was so before, or has nothing open
abbrev WasOn : Log → ℕ → Part → Type 0
WasOn log q part = is_connected part.trail ≡ true → IsConnected log q ⊎ (filters_open (request (counted part.trail)) ≡ [])

was_on : (e : Event) (log : Log) (q : ℕ) → IsNoSend e → IsConnected (e ∷ log) q → IsConnected log q ⊎ (filters_open (request (counted_part (e ∷ log) q)) ≡ [])
was_on (Sent p bytes) log q unsent on = absurd unsent
was_on (Dialled p name) log q unsent on = at_either (WasOn log q) (p.0 == q) (called_part (part_of log q)) (part_of log q) (λ is on. inr refl) (λ off on. inl on) on
was_on (NotDialled p name) log q unsent on = at_either (WasOn log q) (p.0 == q) (with_item (Lost mark.NotDialled) (part_of log q)) (part_of log q) (λ is on. absurd (false≢true on)) (λ off on. inl on) on
was_on (SendFailed p) log q unsent on = at_either (WasOn log q) (p.0 == q) (with_item (Lost mark.SendFailed) (part_of log q)) (part_of log q) (λ is on. absurd (false≢true on)) (λ off on. inl on) on
was_on (Closed p) log q unsent on = at_either (WasOn log q) (p.0 == q) (with_item (Lost mark.Closed) (part_of log q)) (part_of log q) (λ is on. absurd (false≢true on)) (λ off on. inl on) on
was_on (Took (Got p piece)) log q unsent on =
    at_either (WasOn log q) (p.0 == q) (heard_part piece (part_of log q)) (part_of log q) (λ is on. inl (sym (heard_on piece (part_of log q)) ∙ on)) (λ off on. inl on) on
was_on (Took (Gone p)) log q unsent on = at_either (WasOn log q) (p.0 == q) (with_item (Lost mark.Gone) (part_of log q)) (part_of log q) (λ is on. absurd (false≢true on)) (λ off on. inl on) on
was_on (Took (Tick s)) log q unsent on = inl on
was_on (Took Ended) log q unsent on = inl on

-- the same filters are open as before, or none
ends_at : (e : Event) (log : Log) (q : ℕ) → IsNoSend e → OnlyEnds (filters_open (request (counted_part (e ∷ log) q))) (filters_open (request (counted_part log q)))
ends_at (Sent p bytes) log q unsent = absurd unsent
ends_at (Dialled p name) log q unsent = at_either (Ends log q) (p.0 == q) (called_part (part_of log q)) (part_of log q) (λ is. inr refl) (λ off. inl refl)
ends_at (NotDialled p name) log q unsent = at_either (Ends log q) (p.0 == q) (with_item (Lost mark.NotDialled) (part_of log q)) (part_of log q) (λ is. inl refl) (λ off. inl refl)
ends_at (SendFailed p) log q unsent = at_either (Ends log q) (p.0 == q) (with_item (Lost mark.SendFailed) (part_of log q)) (part_of log q) (λ is. inl refl) (λ off. inl refl)
ends_at (Closed p) log q unsent = at_either (Ends log q) (p.0 == q) (with_item (Lost mark.Closed) (part_of log q)) (part_of log q) (λ is. inl refl) (λ off. inl refl)
ends_at (Took (Got p piece)) log q unsent =
    at_either (Ends log q) (p.0 == q) (heard_part piece (part_of log q)) (part_of log q) (λ is. piece_ends (read_stream ((part_of log q).waits ++ piece)) (trail log q)) (λ off. inl refl)
ends_at (Took (Gone p)) log q unsent = at_either (Ends log q) (p.0 == q) (with_item (Lost mark.Gone) (part_of log q)) (part_of log q) (λ is. inl refl) (λ off. inl refl)
ends_at (Took (Tick s)) log q unsent = inl refl
ends_at (Took Ended) log q unsent = inl refl

-- what isn't sent tells of no question
test_like : (e : Event) (log : Log) (q : ℕ) (block : Hash) → IsNoSend e
    → (IsTest log q block → IsTest (e ∷ log) q block) × (IsTest (e ∷ log) q block → IsTest log q block)
test_like (Sent p bytes) log q block unsent = absurd unsent
test_like e log q block unsent = (λ t. t, λ t. t)

aims_stay : (e : Event) (log : Log) (q : ℕ) (aim : Bool) → IsNoSend e → (IsConnected log q → AimsAt log q aim) → IsConnected (e ∷ log) q → AimsAt (e ∷ log) q aim
aims_stay e log q aim unsent a on = elim (was_on e log q unsent on) [
  | inl before ↦ aims_go log (e ∷ log) q aim (ends_at e log q unsent)
      (λ block. (test_like e log q block unsent).0) (λ block. (test_like e log q block unsent).1) (a before)
  | inr none ↦ aims_none (e ∷ log) q aim none
]

-- ---- entries that bring nothing

-- nothing came, and nothing was sent
pub trials_stay : (e : Event) (log : Log) (s : Trials) → IsNoSend e → IsNoPiece e → HoldsTrials log s → HoldsTrials (e ∷ log) s
trials_stay e log s unsent none h = record {
  paid = outputs_stay e log s.paid (no_piece_brings e log none) h.paid;
  told = tests_stay e log s.told (no_piece_tests e log none) h.told;
  clean = clean_stays e log s.paid s.told (no_piece_tests e log none) h.clean;
  aims = λ q. aims_stay e log q (s.aims q) unsent (h.aims q);
}

-- the same is kept
outputs_same : (log : Log) (before after : Paid) → ((hash : Hash) → after hash ≡ before hash) → HoldsOutputs log before → HoldsOutputs log after
outputs_same log before after e h = record {
  sound = λ hash items is. h.sound hash items (sym (e hash) ∙ is);
  complete = λ hash is. h.complete hash (sym (e hash) ∙ is);
}

tests_same : (log : Log) (before after : TestResults) → IsSameTold after before → HoldsTests log before → HoldsTests log after
tests_same log before after e h = record {
  lacking = λ block hash is. h.lacking block hash (sym (e block hash.0) ∙ is);
  holding = λ block hash is. h.holding block hash (sym (e block hash.0) ∙ is);
  complete = λ block hash is. h.complete block hash (sym (e block hash.0) ∙ is);
}

clean_same : (log : Log) (paid next : Paid) (before after : TestResults) → ((hash : Hash) → next hash ≡ paid hash) → IsSameTold after before → AreClean log paid before → AreClean log next after
clean_same log paid next before after p e clean block hash is t = ap (lacks_kept block t.filter.filter) (p block) ∙ clean block hash (sym (e block hash.0) ∙ is) t

pub trials_same : (log : Log) (before after : Trials) → ((hash : Hash) → after.paid hash ≡ before.paid hash) → IsSameTold after.told before.told → ((p : ℕ) → after.aims p ≡ before.aims p)
    → HoldsTrials log before → HoldsTrials log after
trials_same log before after paid told aims h = record {
  paid = outputs_same log before.paid after.paid paid h.paid;
  told = tests_same log before.told after.told told h.told;
  clean = clean_same log before.paid after.paid before.told after.told paid told h.clean;
  aims = λ p on. subst (λ (b : Bool). AimsAt log p b) (sym (aims p)) (h.aims p on);
}

-- ---- a piece

-- the items of what was fetched
paid_go : (p : PeerNo) (piece : List ℕ) (log : Log) (paid : Paid) (news : List Block) → length news ≤ 1
    → fetched_blocks (counted_part (Took (Got p piece) ∷ log) p.0) ≡ news ++ fetched_blocks (counted_part log p.0)
    → ((q : ℕ) → (p.0 == q) ≡ false → fetched_blocks (counted_part (Took (Got p piece) ∷ log) q) ≡ fetched_blocks (counted_part log q))
    → HoldsOutputs log paid → HoldsOutputs (Took (Got p piece) ∷ log) (with_paid news paid)
paid_go p piece log paid [] few brings others h = outputs_stay (Took (Got p piece)) log paid (λ q. by q (cases_Bool (p.0 == q))) h where
  by : (q : ℕ) → ((p.0 == q) ≡ true) ⊎ ((p.0 == q) ≡ false) → fetched_blocks (counted_part (Took (Got p piece) ∷ log) q) ≡ fetched_blocks (counted_part log q)
  by q (inl is) = subst (λ (k : ℕ). fetched_blocks (counted_part (Took (Got p piece) ∷ log) k) ≡ fetched_blocks (counted_part log k)) (eqb-true p.0 q is) brings
  by q (inr off) = others q off
paid_go p piece log paid (b ∷ []) few brings others h = outputs_grow p piece log paid b brings h
paid_go p piece log paid (b ∷ c ∷ more) few brings others h = absurd (omega (arith, few))

-- what is told of tests, and that it is right
abbrev pub AreTold : Log → Paid → TestResults → Type 0
AreTold log paid told = HoldsTests log told × AreClean log paid told

-- the block of each of these filters is among theirs
pub named : (job : Job) (jobs : List Job) → IsIn job jobs → IsIn job.block.0 (map (λ (j : Job). j.block.0) jobs)
named job [] i = absurd i
named job (j ∷ jobs) (inl e) = inl (ap (λ (x : Job). x.block.0) e)
named job (j ∷ jobs) (inr i) = inr (named job jobs i)

-- what was found of what was given
told_go : (p : PeerNo) (piece : List ℕ) (log : Log) (s : Trials) (jobs : List Job)
    → given_filters (counted_part (Took (Got p piece) ∷ log) p.0) ≡ jobs ++ given_filters (counted_part log p.0)
    → (jobs ≡ []) ⊎ (map (λ (j : Job). j.block.0) jobs ≡ filters_open (request (counted_part log p.0)))
    → HoldsTrials log s → IsConnected log p.0 → AreTold (Took (Got p piece) ∷ log) s.paid (tested_if (s.aims p.0) s.paid jobs s.told)
told_go p piece log s jobs gives asked h on = by (s.aims p.0) jobs refl gives (within_open asked) (one_open asked) where
  at : AimsAt log p.0 (s.aims p.0)
  at = h.aims p.0 on

  due : List Hash
  due = filters_open (request (counted_part log p.0))

  none_tested : (js : List Job) → given_filters (counted_part (Took (Got p piece) ∷ log) p.0) ≡ js ++ given_filters (counted_part log p.0)
      → ((job : Job) → IsIn job js → IsTest log p.0 job.block.0 → ⊥) → TestsNone (Took (Got p piece)) log
  none_tested js e none job (inr old) = old
  none_tested js e none job (inl new) =
      let same1 : new.1.news ≡ js = append_cancel_right new.1.news js (given_filters (counted_part log p.0)) (sym new.1.joined ∙ e) in
      absurd (none job (subst (λ (xs : List Job). IsIn job xs) same1 new.1.among) new.0)

  stays : (js : List Job) → given_filters (counted_part (Took (Got p piece) ∷ log) p.0) ≡ js ++ given_filters (counted_part log p.0)
      → ((job : Job) → IsIn job js → IsTest log p.0 job.block.0 → ⊥) → AreTold (Took (Got p piece) ∷ log) s.paid s.told
  stays js e none = (
    tests_stay (Took (Got p piece)) log s.told (none_tested js e none) h.told,
    clean_stays (Took (Got p piece)) log s.paid s.told (none_tested js e none) h.clean,
  )

  within_open : (jobs ≡ []) ⊎ (map (λ (j : Job). j.block.0) jobs ≡ due) → (job : Job) → IsIn job jobs → IsIn job.block.0 due
  within_open (inl none) job i = absurd (subst (λ (xs : List Job). IsIn job xs) none i)
  within_open (inr is) job i = subst (λ (xs : List Hash). IsIn job.block.0 xs) is (named job jobs i)

  one_open : (jobs ≡ []) ⊎ (map (λ (j : Job). j.block.0) jobs ≡ due) → s.aims p.0 ≡ true → length jobs ≤ 1
  one_open (inl none) aim = subst (λ (xs : List Job). length xs ≤ 1) (sym none) (omega arith)
  one_open (inr is) aim = (let few = at.few aim in omega (arith, few, length-map jobs (λ (j : Job). j.block.0), ap (λ (xs : List Hash). length xs) is))

  by : (aim : Bool) (js : List Job) → s.aims p.0 ≡ aim → given_filters (counted_part (Took (Got p piece) ∷ log) p.0) ≡ js ++ given_filters (counted_part log p.0)
      → ((job : Job) → IsIn job js → IsIn job.block.0 due) → (s.aims p.0 ≡ true → length js ≤ 1) → AreTold (Took (Got p piece) ∷ log) s.paid (tested_if aim s.paid js s.told)
  by false js off e into few = stays js e (λ job i t. at.judges off job.block.0 (into job i) t)
  by true [] on e into few = stays [] e (λ job i t. i)
  by true (job ∷ []) on e into few =
      one_tested p piece log s.told s.paid job h.told h.clean h.paid (at.tests on job.block.0 (into job (inl refl))) e
  by true (a ∷ b ∷ more) on e into few = absurd (let le = few on in omega (arith, le))

-- more items change none that are there
paid_stays : (news : List Block) (paid : Paid) (hash : Hash) → IsSome (paid hash) → with_paid news paid hash ≡ paid hash
paid_stays [] paid hash some = refl
paid_stays (b ∷ news) paid hash some = by (same (block_hash_of b.header) hash) (paid hash) some (paid_stays news paid hash some) where
  by : (s : Bool) (o : Option (List (List ℕ))) → IsSome o → with_paid news paid hash ≡ o
      → (if s then Some (unwrap_or (with_paid news paid hash) (output_items_of b)) else with_paid news paid hash) ≡ o
  by true None some e = cc some
  by true (Some x) some e = ap (λ (o : Option (List (List ℕ))). Some (unwrap_or o (output_items_of b))) e
  by false o some e = e

-- what a piece brought is kept
pub trials_piece : (p : PeerNo) (piece : List ℕ) (log : Log) (before after : Trials) (news : List Block) (jobs : List Job)
    → fetched_blocks (counted_part (Took (Got p piece) ∷ log) p.0) ≡ news ++ fetched_blocks (counted_part log p.0)
    → given_filters (counted_part (Took (Got p piece) ∷ log) p.0) ≡ jobs ++ given_filters (counted_part log p.0)
    → TrialsGo before after p.0 news jobs → HoldsTrials log before → HoldsTrials (Took (Got p piece) ∷ log) after
trials_piece p piece log before after news jobs brings gives go h = elim (cases_Bool (is_connected (trail log p.0))) [ inl on ↦ by_piece on (piece_brings p piece log) | inr off ↦ unheard off ] where
  others : (q : ℕ) → (p.0 == q) ≡ false → fetched_blocks (counted_part (Took (Got p piece) ∷ log) q) ≡ fetched_blocks (counted_part log q)
  others q off = ap (λ (b : Bool). fetched_blocks (counted (if b then heard_part piece (part_of log q) else part_of log q).trail)) off

  -- what is told once what the piece brings is
  with_told : length news ≤ 1 → AreTold (Took (Got p piece) ∷ log) before.paid (tested_if (before.aims p.0) before.paid jobs before.told) → HoldsTrials (Took (Got p piece) ∷ log) after
  with_told few told = record {
    paid = outputs_same (Took (Got p piece) ∷ log) (with_paid news before.paid) after.paid go.paid (paid_go p piece log before.paid news few brings others h.paid);
    told = tests_same (Took (Got p piece) ∷ log) (tested_if (before.aims p.0) before.paid jobs before.told) after.told go.told told.0;
    clean = clean_same (Took (Got p piece) ∷ log) (with_paid news before.paid) after.paid (tested_if (before.aims p.0) before.paid jobs before.told) after.told go.paid go.told
        (clean_on (Took (Got p piece)) log before.paid (with_paid news before.paid) (tested_if (before.aims p.0) before.paid jobs before.told) h.paid (paid_stays news before.paid)
        told.1);
    aims = λ q on. subst (λ (b : Bool). AimsAt (Took (Got p piece) ∷ log) q b) (sym (go.aims q)) (aims_stay (Took (Got p piece)) log q (before.aims q) tt (h.aims q) on);
  }

  with_answer : IsConnected log p.0 → length news ≤ 1 → (jobs ≡ []) ⊎ (map (λ (j : Job). j.block.0) jobs ≡ filters_open (request (counted_part log p.0)))
      → HoldsTrials (Took (Got p piece) ∷ log) after
  with_answer on few asked = with_told few (told_go p piece log before jobs gives asked h on)

  -- what a peer says that isn't connected brings nothing
  none_told : (aim : Bool) → jobs ≡ [] → AreTold (Took (Got p piece) ∷ log) before.paid (tested_if aim before.paid jobs before.told)
  none_told aim none = subst (λ (js : List Job). AreTold (Took (Got p piece) ∷ log) before.paid (tested_if aim before.paid js before.told)) (sym none) (by_aim aim) where
    same_tests : TestsNone (Took (Got p piece)) log
    same_tests job (inr old) = old
    same_tests job (inl new) =
        let one : new.1.news ≡ [] = append_cancel_right new.1.news [] (given_filters (counted_part log p.0)) (sym new.1.joined ∙ gives ∙ ap (λ (js : List Job). js ++ given_filters (counted_part log p.0)) none) in
        absurd (subst (λ (js : List Job). IsIn job js) one new.1.among)

    told_same : AreTold (Took (Got p piece) ∷ log) before.paid before.told
    told_same = (tests_stay (Took (Got p piece)) log before.told same_tests h.told, clean_stays (Took (Got p piece)) log before.paid before.told same_tests h.clean)

    by_aim : (a : Bool) → AreTold (Took (Got p piece) ∷ log) before.paid (tested_if a before.paid [] before.told)
    by_aim true = told_same
    by_aim false = told_same

  unheard : is_connected (trail log p.0) ≡ false → HoldsTrials (Took (Got p piece) ∷ log) after
  unheard off =
      let same1 : counted_part (Took (Got p piece) ∷ log) p.0 ≡ counted_part log p.0 =
      ap (λ (x : Part). counted x.trail) (got_here p piece (part_of log p.0)) ∙ heard_deaf piece (part_of log p.0) off in
      let no_news : news ≡ [] = append_cancel_right news [] (fetched_blocks (counted_part log p.0)) (sym brings ∙ ap fetched_blocks same1) in
      let no_jobs : jobs ≡ [] = append_cancel_right jobs [] (given_filters (counted_part log p.0)) (sym gives ∙ ap given_filters same1) in
      with_told (subst (λ (bs : List Block). length bs ≤ 1) (sym no_news) (omega arith)) (none_told (before.aims p.0) no_jobs)

  by_piece : IsConnected log p.0 → HasAnswered (trail log p.0) (counted_part (Took (Got p piece) ∷ log) p.0) → HoldsTrials (Took (Got p piece) ∷ log) after
  by_piece on (inl s) =
      let no_news : news ≡ [] = append_cancel_right news [] (fetched_blocks (counted_part log p.0)) (sym brings ∙ s.0) in
      let no_jobs : jobs ≡ [] = append_cancel_right jobs [] (given_filters (counted_part log p.0)) (sym gives ∙ s.1) in
      with_answer on (subst (λ (bs : List Block). length bs ≤ 1) (sym no_news) (omega arith)) (inl no_jobs)
  by_piece on (inr s) =
      let w = s.1 in
      let same_news : w.news ≡ news = append_cancel_right w.news news (fetched_blocks (counted_part log p.0)) (sym w.blocks ∙ brings) in
      let same_jobs : w.jobs ≡ jobs = append_cancel_right w.jobs jobs (given_filters (counted_part log p.0)) (sym w.filters ∙ gives) in
      let answer : IsAnswer news jobs (filters_open (request (counted_part log p.0))) =
      subst (λ (bs : List Block). IsAnswer bs jobs (filters_open (request (counted_part log p.0)))) same_news
      (subst (λ (js : List Job). IsAnswer w.news js (filters_open (request (counted_part log p.0)))) same_jobs w.answer) in
      with_answer on answer.few answer.asked

-- ---- a message that is sent

-- to another peer
sent_off : (p : PeerNo) (bytes : List ℕ) (log : Log) (q : ℕ) (aim : Bool) → (p.0 == q) ≡ false → AimsAt log q aim → AimsAt (Sent p bytes ∷ log) q aim
sent_off p bytes log q aim off a =
    aims_go log (Sent p bytes ∷ log) q aim
    (inl (ap (λ (b : Bool). filters_open (request (counted (if b then record (part_of log q) { trail = asks (spelled bytes) (trail log q) } else part_of log q).trail))) off))
    (λ block t. subst (λ (b : Bool). test_after b (spelled bytes) log block (IsTest log q block)) (sym off) t)
    (λ block t. subst (λ (b : Bool). test_after b (spelled bytes) log block (IsTest log q block)) off t) a

sent_here : (p : PeerNo) (bytes : List ℕ) (part : Part) → went_on (Sent p bytes) p.0 part ≡ record part { trail = asks (spelled bytes) part.trail }
sent_here p bytes part = grind (arith, common_steps)

asked_part : (p : PeerNo) (bytes : List ℕ) (log : Log) (o : Option Msg) → spelled bytes ≡ o → counted_part (Sent p bytes ∷ log) p.0 ≡ counted (asks o (trail log p.0))
asked_part p bytes log o is =
    ap (λ (x : Part). counted x.trail) (sent_here p bytes (part_of log p.0)) ∙ ap (λ (o : Option Msg). counted (asks o (trail log p.0))) is

test_now : (p : PeerNo) (bytes : List ℕ) (log : Log) (o : Option Msg) (block : Hash) → spelled bytes ≡ o → IsTest (Sent p bytes ∷ log) p.0 block → test_after true o log block (IsTest log p.0 block)
test_now p bytes log o block is t =
    subst (λ (o : Option Msg). test_after true o log block (IsTest log p.0 block)) is
    (subst (λ (b : Bool). test_after b (spelled bytes) log block (IsTest log p.0 block)) (eq-eqb p.0 p.0 refl) t)

test_then : (p : PeerNo) (bytes : List ℕ) (log : Log) (o : Option Msg) (block : Hash) → spelled bytes ≡ o → test_after true o log block (IsTest log p.0 block) → IsTest (Sent p bytes ∷ log) p.0 block
test_then p bytes log o block is t =
    subst (λ (b : Bool). test_after b (spelled bytes) log block (IsTest log p.0 block)) (sym (eq-eqb p.0 p.0 refl))
    (subst (λ (o : Option Msg). test_after true o log block (IsTest log p.0 block)) (sym is) t)

-- these filters are asked for: one that is to be tested, of a fetched block; or those of blocks that weren't fetched
pub record AimsFor (log : Log) (due : List Hash) (aim : Bool) : Type 0 where
  pub few : aim ≡ true → length due ≤ 1
  pub tests : aim ≡ true → (block : Hash) → IsIn block due → IsFetchedHash log block
  pub judges : aim ≡ false → (block : Hash) → IsIn block due → IsFetchedHash log block → ⊥

pub aims_asked : (p : PeerNo) (bytes : List ℕ) (log : Log) (filter start : ℕ) (stop : Hash32) (aim : Bool) → spelled bytes ≡ Some (GetCfilters filter start stop)
    → AimsFor log (filters_open (filters_asked start (back_to stop.0 (own (counted_part log p.0))))) aim → AimsAt (Sent p bytes ∷ log) p.0 aim
aims_asked p bytes log filter start stop aim is a =
    let o = Some (GetCfilters filter start stop) in
    let e : filters_open (request (counted_part (Sent p bytes ∷ log) p.0)) ≡ filters_open (filters_asked start (back_to stop.0 (own (counted_part log p.0)))) =
    ap (λ (t : Trail). filters_open (request t)) (asked_part p bytes log o is) in
    record {
      few = λ on. subst (λ (xs : List Hash). length xs ≤ 1) (sym e) (a.few on);
      tests = λ on block i. test_then p bytes log o block is (a.tests on block (subst (λ (xs : List Hash). IsIn block xs) e i));
      judges = λ off block i t. a.judges off block (subst (λ (xs : List Hash). IsIn block xs) e i) (test_now p bytes log o block is t);
    }

-- it asks for no filters
abbrev pub IsNoQuestion : Option Msg → Type 0
IsNoQuestion o = (filter start : ℕ) (stop : Hash32) → o ≡ Some (GetCfilters filter start stop) → ⊥

asked_ends : (o : Option Msg) (t : Trail) → IsNoQuestion o → OnlyEnds (filters_open (request (counted (asks o t)))) (filters_open (request (counted t)))
asked_ends None t unasked = inl refl
asked_ends (Some (GetHeaders version locator stop)) t unasked = inr refl
asked_ends (Some (GetCfheaders filter start stop)) t unasked = inr (by (back_to stop.0 (own (counted t)))) where
  by : (o : Option Chain) → filters_open (claims_asked start stop.0 o) ≡ []
  by None = refl
  by (Some part) = refl
asked_ends (Some (GetCfilters filter start stop)) t unasked = absurd (unasked filter start stop refl)
asked_ends (Some (GetData entries)) t unasked = by entries where
  by : (es : List Inventory) → OnlyEnds (filters_open (block_asked es (request (counted t)))) (filters_open (request (counted t)))
  by [] = inl refl
  by (entry ∷ more) = inr refl
asked_ends (Some (Ping number)) t unasked = inr refl
asked_ends (Some m) t unasked = inl refl

test_stays : (o : Option Msg) (log : Log) (block : Hash) (before : Type 0) → IsNoQuestion o → test_after true o log block before → before
test_stays None log block before unasked t = t
test_stays (Some (GetCfilters filter start stop)) log block before unasked t = absurd (unasked filter start stop refl)
test_stays (Some m) log block before unasked t = t

test_kept : (o : Option Msg) (log : Log) (block : Hash) (before : Type 0) → IsNoQuestion o → before → test_after true o log block before
test_kept None log block before unasked t = t
test_kept (Some (GetCfilters filter start stop)) log block before unasked t = absurd (unasked filter start stop refl)
test_kept (Some m) log block before unasked t = t

pub aims_other : (p : PeerNo) (bytes : List ℕ) (log : Log) (o : Option Msg) (aim : Bool) → spelled bytes ≡ o → IsNoQuestion o → AimsAt log p.0 aim → AimsAt (Sent p bytes ∷ log) p.0 aim
aims_other p bytes log o aim is unasked a =
    aims_go log (Sent p bytes ∷ log) p.0 aim
    (subst (λ (t : Trail). OnlyEnds (filters_open (request t)) (filters_open (request (counted_part log p.0)))) (sym (asked_part p bytes log o is)) (asked_ends o (trail log p.0) unasked))
    (λ block t. test_then p bytes log o block is (test_kept o log block (IsTest log p.0 block) unasked t))
    (λ block t. test_stays o log block (IsTest log p.0 block) unasked (test_now p bytes log o block is t)) a

-- who was sent something is connected as before
pub sent_on : (p : PeerNo) (bytes : List ℕ) (log : Log) (q : ℕ) → IsConnected (Sent p bytes ∷ log) q → IsConnected log q
sent_on p bytes log q on =
    at_either (λ (x : Part). is_connected x.trail ≡ true → IsConnected log q) (p.0 == q) (record (part_of log q) { trail = asks (spelled bytes) (trail log q) }) (part_of log q)
    (λ is. by (spelled bytes)) (λ off on. on) on where
      by : (o : Option Msg) → is_connected (asks o (trail log q)) ≡ true → IsConnected log q
      by None on = on
      by (Some m) on = on

-- who isn't cut off was connected before
pub closed_on : (p : PeerNo) (log : Log) (q : ℕ) → IsConnected (Closed p ∷ log) q → IsConnected log q
closed_on p log q on =
    at_either (λ (x : Part). is_connected x.trail ≡ true → IsConnected log q) (p.0 == q) (with_item (Lost mark.Closed) (part_of log q)) (part_of log q)
    (λ is on. absurd (false≢true on)) (λ off on. on) on

pub failed_on : (p : PeerNo) (log : Log) (q : ℕ) → IsConnected (SendFailed p ∷ log) q → IsConnected log q
failed_on p log q on =
    at_either (λ (x : Part). is_connected x.trail ≡ true → IsConnected log q) (p.0 == q) (with_item (Lost mark.SendFailed) (part_of log q)) (part_of log q)
    (λ is on. absurd (false≢true on)) (λ off on. on) on

-- and what is kept goes on
pub trials_sent : (p : PeerNo) (bytes : List ℕ) (log : Log) (before after : Trials) → ((hash : Hash) → after.paid hash ≡ before.paid hash) → IsSameTold after.told before.told
    → ((q : ℕ) → q ≢ p.0 → after.aims q ≡ before.aims q) → (IsConnected log p.0 → AimsAt (Sent p bytes ∷ log) p.0 (after.aims p.0)) → HoldsTrials log before → HoldsTrials (Sent p bytes ∷ log) after
trials_sent p bytes log before after paid told aims at h =
    let next = Sent p bytes ∷ log in
    record {
      paid = outputs_same next before.paid after.paid paid (outputs_stay (Sent p bytes) log before.paid (no_piece_brings (Sent p bytes) log tt) h.paid);
      told = tests_same next before.told after.told told (tests_stay (Sent p bytes) log before.told (no_piece_tests (Sent p bytes) log tt) h.told);
      clean = clean_same next before.paid after.paid before.told after.told paid told (clean_stays (Sent p bytes) log before.paid before.told (no_piece_tests (Sent p bytes) log tt) h.clean);
      aims = λ q on.
          let before_on : IsConnected log q = sent_on p bytes log q on in
          elim (cases_eq q p.0) [
            | inl e ↦ subst (λ (k : ℕ). AimsAt next k (after.aims k)) (sym e) (at (subst (λ (k : ℕ). IsConnected log k) e before_on))
            | inr ne ↦ subst (λ (b : Bool). AimsAt next q b) (sym (aims q ne)) (sent_off p bytes log q (before.aims q) (ne_eqb p.0 q (λ e. ne (sym e))) (h.aims q before_on))
          ];
    }

-- ---- what is asked for by what is wanted

due_in : (start : ℕ) (o : Option Chain) (block : Hash) → IsIn block (filters_open (filters_asked start o)) → IsIn block (blocks_in start o)
due_in start None block i = i
due_in start (Some part) block i = i

-- filters that are wanted are of blocks that weren't fetched
pub aims_for_wanted : (log : Log) (p start : ℕ) (stop : Hash) → own (counted_part log p) ≡ own (trail log p) → AreFiltersWanted log p start stop
    → AimsFor log (filters_open (filters_asked start (back_to stop (own (counted_part log p))))) false
aims_for_wanted log p start stop same1 wanted = record {
  few = λ on. cc;
  tests = λ on block i. cc;
  judges = λ off block i got.
      (wanted block (subst (λ (c : Chain). IsIn block (blocks_in start (back_to stop c))) same1 (due_in start (back_to stop (own (counted_part log p))) block i))).0 got;
}

one_block : (part : Chain) → length (blocks_from (length part) part) ≤ 1
one_block [] = omega arith
one_block (h ∷ below) =
    let e : suc (length below) - length below ≡ 1 = omega arith in
    subst (λ (k : ℕ). length (map block_hash_of (reverse (take k (h ∷ below)))) ≤ 1) (sym e) (omega arith)

-- one that is to be tested is of a fetched block
pub aims_for_test : (log : Log) (p start : ℕ) (stop : Hash) → own (counted_part log p) ≡ own (trail log p) → IsTestOf log p start stop
    → AimsFor log (filters_open (filters_asked start (back_to stop (own (counted_part log p))))) true
aims_for_test log p start stop same1 t =
    let tip : back_to stop (own (counted_part log p)) ≡ Some t.part = subst (λ (c : Chain). back_to stop c ≡ Some t.part) (sym same1) t.tip in
    let due : filters_open (filters_asked start (back_to stop (own (counted_part log p)))) ≡ blocks_from (length t.part) t.part =
    ap (λ (o : Option Chain). filters_open (filters_asked start o)) tip ∙ ap (λ (n : ℕ). blocks_from n t.part) t.one in
    record {
      few = λ on. subst (λ (xs : List Hash). length xs ≤ 1) (sym due) (one_block t.part);
      tests = λ on block i.
          let is : block ≡ stop = tip_only t.part block (subst (λ (xs : List Hash). IsIn block xs) due i) ∙ back_ends stop (own (counted_part log p)) t.part tip in
          subst (λ (b : Hash). IsFetchedHash log b) (sym is) t.wanted.fetched;
      judges = λ off block i got. cc;
    }

-- ---- at the start

-- nothing came yet, and nothing is kept
pub trials_start : (s : Trials) → ((hash : Hash) → s.paid hash ≡ None) → ((block filter : Hash) → s.told block filter ≡ None) → HoldsTrials [] s
trials_start s paid told = record {
  paid = record {
    sound = λ hash items is. (let no : None ≡ Some items = sym (paid hash) ∙ is in cc);
    complete = λ hash is got. got.1.1;
  };
  told = record {
    lacking = λ block hash is. (let no : None ≡ Some true = sym (told block hash.0) ∙ is in cc);
    holding = λ block hash is. (let no : None ≡ Some false = sym (told block hash.0) ∙ is in cc);
    complete = λ block hash is t. t.tested;
  };
  clean = λ block hash is t. absurd t.tested;
  aims = λ p on. absurd (false≢true on);
}

-- ---- another log that tells the same

-- a message that is sent is of the same fetched blocks
pub test_alike : (planned log : Log) (p : PeerNo) (bytes : List ℕ) (q : ℕ) (block : Hash) → IsSameFetched planned log → IsSameTest planned log q block
    → IsSameTest (Sent p bytes ∷ planned) (Sent p bytes ∷ log) q block
test_alike planned log p bytes q block same1 t = by (p.0 == q) (spelled bytes) where
  by : (b : Bool) (o : Option Msg) → (test_after b o planned block (IsTest planned q block) → test_after b o log block (IsTest log q block))
      × (test_after b o log block (IsTest log q block) → test_after b o planned block (IsTest planned q block))
  by false o = t
  by true None = t
  by true (Some (GetCfilters filter start stop)) =
      (λ got. same_fetched_hash planned log same1 block got, λ got. same_fetched_hash log planned (same_fetched_back planned log same1) block got)
  by true (Some m) = t

-- one to another peer is of no account
pub test_off : (log : Log) (p : PeerNo) (bytes : List ℕ) (q : ℕ) (block : Hash) → q ≢ p.0 → IsSameTest (Sent p bytes ∷ log) log q block
test_off log p bytes q block ne =
    let off : (p.0 == q) ≡ false = ne_eqb p.0 q (λ e. ne (sym e)) in (
      λ t. subst (λ (b : Bool). test_after b (spelled bytes) log block (IsTest log q block)) off t,
      λ t. subst (λ (b : Bool). test_after b (spelled bytes) log block (IsTest log q block)) (sym off) t,
    )

pub trials_alike : (planned log : Log) (s : Trials) → ((q : ℕ) → Alike (part_of planned q) (part_of log q)) → IsSameFetched planned log → ((job : Job) → IsTested planned job → IsTested log job)
    → ((job : Job) → IsTested log job → IsTested planned job) → ((q : ℕ) → IsConnected log q → (block : Hash) → IsSameTest planned log q block)
    → HoldsTrials planned s → HoldsTrials log s
trials_alike planned log s parts same1 to from aims h = record {
  paid = record {
    sound = λ hash items is. let w = h.paid.sound hash items is in (w.0, same_fetched planned log same1 w.0 w.1, w.2, w.3);
    complete = λ hash is got. h.paid.complete hash is (same_fetched_hash log planned (same_fetched_back planned log same1) hash got);
  };
  told = record {
    lacking = λ block hash is. let w = h.told.lacking block hash is in (
      with_to block hash w.0,
      record { body = w.1.body; fetched = same_fetched planned log same1 w.1.body w.1.fetched; of_block = w.1.of_block; lacking = w.1.lacking },
    );
    holding = λ block hash is. with_to block hash (h.told.holding block hash is);
    complete = λ block hash is t. h.told.complete block hash is (with_from block hash t);
  };
  clean = λ block hash is t. h.clean block hash is (with_from block hash t);
  aims = λ q on. by q (parts q) on;
} where
  with_to : (block : Hash) (hash : Hash32) → IsTestedWith planned block hash → IsTestedWith log block hash
  with_to block hash t = record { filter = t.filter; tested = to t.filter t.tested; of_block = t.of_block; this = t.this }

  with_from : (block : Hash) (hash : Hash32) → IsTestedWith log block hash → IsTestedWith planned block hash
  with_from block hash t = record { filter = t.filter; tested = from t.filter t.tested; of_block = t.of_block; this = t.this }

  by : (q : ℕ) → Alike (part_of planned q) (part_of log q) → IsConnected log q → AimsAt log q (s.aims q)
  by q (inl e) on =
      aims_go planned log q (s.aims q) (inl (ap (λ (x : Part). filters_open (request (counted x.trail))) (sym e))) (λ block t. (aims q on block).0 t) (λ block t. (aims q on block).1 t)
      (h.aims q (ap (λ (x : Part). is_connected x.trail) e ∙ on))
  by q (inr off) on = absurd (both_ways (is_connected (trail log q)) off.1 on)
