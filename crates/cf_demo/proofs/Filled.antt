-- Filters are never open for no block.
use Rattle.std.proofs.Common.{◌≡◌, ◌==◌, ℕ, zero, suc, ◌-◌, ◌≤◌, List, [], ◌∷◌, ◌++◌, length, take, Option, Some, None, Result, Ok, Err, Bool, true, false, if◌then◌else◌, sym, subst, arith, length-take}
use Rattle.std.proofs.lemmas.Bool.{eqb-true}
use Rattle.std.proofs.lemmas.List.{length-map, length-reverse}
use Rattle.cf_block.specs.Header.{block_hash_of}
use Rattle.cf_frame.specs.declared.frame.Frame.{Frame}
use Rattle.cf_frame.specs.declared.frame.FrameFault.{FrameFault}
use Rattle.cf_frame.specs.Stream.{StreamRead, read_stream}
use Rattle.cf_headers.specs.Chain.{Hash, Chain, above, back_to}
use Rattle.cf_match.specs.declared.job.Job.{Job}
use Rattle.cf_msg.specs.declared.msg.Malformed.{Malformed}
use Rattle.cf_msg.specs.declared.msg.Inventory.{Inventory}
use Rattle.cf_msg.specs.declared.msg.Msg.{Msg}
use Rattle.cf_msg.specs.declared.msg.Msg.TheVariants.{Ping, Pong, GetHeaders, Headers, GetData, Block as BlockMessage, GetCfheaders, Cfheaders, GetCfilters, Cfilter}
use Rattle.cf_msg.specs.Reading.{message_of}
use Rattle.cf_wires.specs.declared.event.Delivery.TheVariants.{Got, Gone, Tick, Ended}
use Rattle.cf_wires.specs.declared.event.Event.TheVariants.{Dialled, NotDialled, Sent, SendFailed, Closed, Took}
use Rattle.cf_wires.specs.declared.event.Mark.TheVariants as mark
use Rattle.cf_wires.specs.Log.{Log}
use Rattle.cf_peer.specs.Trail.{Trail, Part, Asked, Lost, called_part, with_item, item_of, item_of_read, hears, hears_fault, part_after, heard_part, spelled, asks, part_of, trail, own}
use Rattle.cf_peer.specs.Asking.{OpenRequest, NothingOpen, HeadersOpen, ClaimsOpen, FiltersOpen, BlockOpen, PingOpen, block_asked, blocks_from, claims_asked, filters_asked, request, request_after, filters_left, filter_of, is_answer_of, is_wanted, MayAsk}
use Rattle.cf_sync.specs.Fetching.{Rightly}
use Rattle.cf_sync.proofs.Entries.{at_either}

-- filters that are open are those of a block at least
abbrev pub IsFilled : OpenRequest → Type 0
IsFilled NothingOpen = Unit {0}
IsFilled HeadersOpen = Unit {0}
IsFilled (ClaimsOpen stop parent blocks) = Unit {0}
IsFilled (FiltersOpen [] came) = ⊥
IsFilled (FiltersOpen (next ∷ left) came) = Unit {0}
IsFilled (BlockOpen block) = Unit {0}
IsFilled (PingOpen number) = Unit {0}

left_filled : (left : List Hash) (came : List Job) → IsFilled (filters_left left came)
left_filled [] came = tt
left_filled (next ∷ left) came = tt

after_filled : (m : Msg) (r : OpenRequest) → IsFilled r → IsFilled (request_after m r)
after_filled (Headers hs) HeadersOpen h = tt
after_filled (Cfheaders filter stop previous hashes) (ClaimsOpen wanted parent blocks) h = by_test (is_answer_of filter stop.0 wanted) where
  by_test : (b : Bool) → IsFilled (if b then NothingOpen else ClaimsOpen wanted parent blocks)
  by_test true = tt
  by_test false = tt
after_filled (Cfilter filter block bytes) (FiltersOpen [] came) h = absurd h
after_filled (Cfilter filter block bytes) (FiltersOpen (next ∷ left) came) h = by_test (is_answer_of filter block.0 next) where
  by_test : (b : Bool) → IsFilled (if b then filters_left left (came ++ filter_of block bytes ∷ []) else FiltersOpen (next ∷ left) came)
  by_test true = left_filled left (came ++ filter_of block bytes ∷ [])
  by_test false = tt
after_filled (BlockMessage b) (BlockOpen wanted) h = by_test (is_wanted b wanted) where
  by_test : (b : Bool) → IsFilled (if b then NothingOpen else BlockOpen wanted)
  by_test true = tt
  by_test false = tt
after_filled (Pong number) (PingOpen wanted) h = by_test (number == wanted) where
  by_test : (b : Bool) → IsFilled (if b then NothingOpen else PingOpen wanted)
  by_test true = tt
  by_test false = tt
after_filled (Pong number) NothingOpen h = h
after_filled (Pong number) HeadersOpen h = h
after_filled (Pong number) (ClaimsOpen stop parent blocks) h = h
after_filled (Pong number) (FiltersOpen left came) h = h
after_filled (Pong number) (BlockOpen block) h = h
after_filled m r h = h

-- ---- what is asked

some_filled : (blocks : List Hash) → 1 ≤ length blocks → IsFilled (FiltersOpen blocks [])
some_filled [] some = absurd (omega (arith, some))
some_filled (next ∷ left) some = tt

-- a range within a part is of one block at least
above_some : (start : ℕ) (part : Chain) → 1 ≤ start → start ≤ length part → 1 ≤ length (blocks_from start part)
above_some zero part some high = absurd (omega (arith, some))
above_some (suc j) part some high =
    let n : ℕ = length part - j in
    let a = length-map (above j part) block_hash_of in
    let b = length-reverse (take n part) in
    let c = length-take n part in
    omega (arith, a, b, c, high)

asked_filled : (o : Option Chain) (start : ℕ) (part : Chain) → o ≡ Some part → 1 ≤ start → start ≤ length part → IsFilled (filters_asked start o)
asked_filled None start part e some high = cc
asked_filled (Some base) start part e some high =
    let same : base ≡ part = cc in
    subst (λ (c : Chain). IsFilled (FiltersOpen (blocks_from start c) [])) (sym same) (some_filled (blocks_from start part) (above_some start part some high))

claims_filled : (o : Option Chain) (start : ℕ) (stop : Hash) → IsFilled (claims_asked start stop o)
claims_filled None start stop = tt
claims_filled (Some part) start stop = tt

block_filled : (entries : List Inventory) (r : OpenRequest) → IsFilled r → IsFilled (block_asked entries r)
block_filled [] r h = h
block_filled (entry ∷ more) r h = tt

for_filled : (t : Trail) (m : Msg) → MayAsk t m → IsFilled (request t) → IsFilled (request (Asked m ∷ t))
for_filled t (GetHeaders version locator stop) may h = tt
for_filled t (GetCfheaders filter start stop) may h = claims_filled (back_to stop.0 (own t)) start stop.0
for_filled t (GetCfilters filter start stop) may h =
    let range = may.1.0 in
    asked_filled (back_to stop.0 (own t)) start range.part range.tip range.low range.high
for_filled t (GetData entries) may h = block_filled entries (request t) h
for_filled t (Ping n) may h = tt
for_filled t m may h = h

-- ---- what is heard

item_filled : (r : Result Msg Malformed) (t : Trail) → IsFilled (request t) → IsFilled (request (item_of_read r ∷ t))
item_filled (Ok m) t h = after_filled m (request t) h
item_filled (Err e) t h = h

hears_filled : (fs : List Frame) (t : Trail) → IsFilled (request t) → IsFilled (request (hears fs t))
hears_filled [] t h = h
hears_filled (f ∷ fs) t h = hears_filled fs (item_of f ∷ t) (item_filled (message_of f) t h)

fault_filled : (o : Option FrameFault) (t : Trail) → IsFilled (request t) → IsFilled (request (hears_fault o t))
fault_filled None t h = h
fault_filled (Some fault) t h = h

read_filled : (r : StreamRead) (t : Trail) → IsFilled (request t) → IsFilled (request (part_after r t).trail)
read_filled r t h = fault_filled r.fault (hears r.frames t) (hears_filled r.frames t h)

-- ---- the log

abbrev IsFilledPart : Part → Type 0
IsFilledPart part = IsFilled (request part.trail)

pub filled : (log : Log) (p : ℕ) → Rightly log → IsFilled (request (trail log p))
filled [] p right = tt
filled (Dialled q name ∷ log) p right = at_either IsFilledPart (q.0 == p) (called_part (part_of log p)) (part_of log p) (λ is. tt) (λ off. filled log p right)
filled (NotDialled q name ∷ log) p right = at_either IsFilledPart (q.0 == p) (with_item (Lost mark.NotDialled) (part_of log p)) (part_of log p) (λ is. filled log p right) (λ off. filled log p right)
filled (Sent q bytes ∷ log) p right =
    let before = filled log p right.1 in
    at_either IsFilledPart (q.0 == p) (record (part_of log p) { trail = asks (spelled bytes) (trail log p) }) (part_of log p)
    (λ is. subst (λ (o : Option Msg). IsFilled (request (asks o (trail log p)))) (sym right.0.1)
    (for_filled (trail log p) right.0.0 (subst (λ (k : ℕ). MayAsk (trail log k) right.0.0) (eqb-true q.0 p is) right.0.2.of_its_part) before)) (λ off. before)
filled (SendFailed q ∷ log) p right = at_either IsFilledPart (q.0 == p) (with_item (Lost mark.SendFailed) (part_of log p)) (part_of log p) (λ is. filled log p right) (λ off. filled log p right)
filled (Closed q ∷ log) p right = at_either IsFilledPart (q.0 == p) (with_item (Lost mark.Closed) (part_of log p)) (part_of log p) (λ is. filled log p right.1) (λ off. filled log p right.1)
filled (Took (Got q piece) ∷ log) p right =
    let before = filled log p right.1 in
    at_either IsFilledPart (q.0 == p) (heard_part piece (part_of log p)) (part_of log p) (λ is. read_filled (read_stream ((part_of log p).waits ++ piece)) (trail log p) before) (λ off. before)
filled (Took (Gone q) ∷ log) p right = at_either IsFilledPart (q.0 == p) (with_item (Lost mark.Gone) (part_of log p)) (part_of log p) (λ is. filled log p right.1) (λ off. filled log p right.1)
filled (Took (Tick s) ∷ log) p right = filled log p right.1
filled (Took Ended ∷ log) p right = filled log p right.1
