-- An honest peer omits nothing.
use Rattle.std.proofs.Common.{◌≡◌, inl, inr, ℕ, ◌≤◌, ◌==◌, List, [], ◌∷◌, ◌++◌, length, false, Some, None, Option, refl, sym, ◌∙◌, ap}
use Rattle.std.specs.Prelude.{option_map}
use Rattle.std.specs.FinMap.{empty}
use Rattle.std.proofs.lemmas.Bool.{both_ways}
use Rattle.cf_bytes.specs.declared.hash.Hash32.{Hash32}
use Rattle.cf_block.specs.declared.tx.Block.{Block}
use Rattle.cf_block.specs.Header.{block_hash_of}
use Rattle.cf_chain.specs.Coins.{CoinMap, after_block}
use Rattle.cf_chain.specs.Filters.{Filtered, prevouts, filtered, filtered_on, first_filtered}
use Rattle.cf_chain.specs.Good.{AreGoodBlocks}
use Rattle.cf_dispute.specs.declared.claim.Claim.{Claim}
use Rattle.cf_dispute.specs.Claims.{Table}
use Rattle.cf_filter.specs.Items.{items_of}
use Rattle.cf_filter.specs.Filter.{basic_filter_of, filter_hash_of}
use Rattle.cf_headers.specs.Chain.{IsIn, NoHashClash}
use Rattle.cf_match.specs.declared.job.Job.{Job}
use Rattle.cf_wires.specs.declared.event.Delivery.TheVariants.{Got, Gone, Tick, Ended}
use Rattle.cf_wires.specs.declared.event.Event.{Event}
use Rattle.cf_wires.specs.declared.event.Event.TheVariants.{Dialled, NotDialled, Sent, SendFailed, Closed, Took}
use Rattle.cf_wires.specs.declared.event.Mark.TheVariants as mark
use Rattle.cf_wires.specs.Log.{Log}
use Rattle.cf_frame.specs.declared.frame.Frame.{Frame}
use Rattle.cf_frame.specs.declared.frame.FrameFault.{FrameFault}
use Rattle.cf_frame.specs.Stream.{StreamRead, read_stream}
use Rattle.cf_msg.specs.declared.msg.Msg.{Msg}
use Rattle.cf_peer.specs.Trail.{Trail, Part, Item, Called, Said, Refused, Asked, Passed, Lost, called_part, with_item, item_of, hears, hears_fault, part_after, heard_part, spelled, asks, part_of, trail}
use Rattle.cf_peer.specs.Asking.{HasSaid, claims, verdict}
use Rattle.cf_filter.specs.Lacking.{output_items_of, lacks}
use Rattle.cf_sync.specs.Fetching.{counted_part, AreBytes, IsTest, IsTested, IsOmitting}
use Rattle.cf_sync.specs.Honesty.{IsTrueOf}
use Rattle.cf_sync.specs.Sync.{IsHashed}
use Rattle.cf_sync.proofs.Answered.{answered_stays, answered_wide}
use Rattle.cf_sync.proofs.Counted.{same_use}
use Rattle.cf_sync.proofs.HonestLemmas.{Good, NeverOmits, good_truth}
use Rattle.cf_sync.proofs.Serves.{AreTrue}
use Rattle.cf_filter.proofs.OwnFilter.{own_filter}
use Rattle.cf_sync.proofs.Untouched.{few_items}
use Rattle.cf_sync.proofs.Brought.{fetched_is, given_is}
use Rattle.cf_sync.proofs.Entries.{at_either}

-- ---- what was tested stays tested

pub tested_stays : (e : Event) (log : Log) (job : Job) → IsTested log job → IsTested (e ∷ log) job
tested_stays = answered_stays IsTest

-- ---- the filters of a chain

-- a filter of a chain is one of its blocks', made of all items
pub record IsFilterOf (blocks : List Block) (f : Filtered) : Type 0 where
  pub block : Block
  pub among : IsIn block blocks
  pub spent : List (List ℕ)
  pub named : f.block ≡ block_hash_of block.header
  pub made : f.filter ≡ basic_filter_of (block_hash_of block.header) (items_of block spent)
  pub few : length (items_of block spent) ≤ 33554432

filter_of_block : (coins : CoinMap) (previous : List ℕ) (blocks : List Block) → AreGoodBlocks coins blocks → (f : Filtered) → IsIn f (filtered_on coins previous blocks) → IsFilterOf blocks f
filter_of_block coins previous [] good f i = absurd i
filter_of_block coins previous (b ∷ bs) good f (inl e) = record {
  block = b;
  among = inl refl;
  spent = prevouts coins b;
  named = ap (λ (x : Filtered). x.block) e;
  made = ap (λ (x : Filtered). x.filter) e;
  few = few_items coins b good.0.spelled;
}
filter_of_block coins previous (b ∷ bs) good f (inr i) =
    let w = filter_of_block (after_block coins b) (filtered (prevouts coins b) previous b).header bs good.1 f i in
    record { block = w.block; among = inr w.among; spent = w.spent; named = w.named; made = w.made; few = w.few }

-- ---- an honest peer

claim_is : (o : Option Claim) (hash : Hash32) → option_map (λ (c : Claim). c.hash) o ≡ Some hash → (claim : Claim) × ((o ≡ Some claim) × (claim.hash ≡ hash))
claim_is None hash e = cc
claim_is (Some claim) hash e = (claim, (refl, cc))

same_lacks : (a b : List ℕ) (x y : Block) (f g : List ℕ) → a ≡ b → x ≡ y → f ≡ g → lacks b (output_items_of y) g ≡ false → lacks a (output_items_of x) f ≡ false
same_lacks a b x y f g e same h own = (λ i. lacks (e i) (output_items_of (same i)) (h i)) ∙ own

-- a filter that a peer claims whose claims are true lacks nothing that a fetched block pays
pub truth_omits_nothing : (log : Log) (p : ℕ) (blocks : List Block) → AreBytes log → NoHashClash (IsHashed log blocks)
    → AreGoodBlocks empty blocks → verdict (trail log p) ≡ None → AreTrue blocks (claims (trail log p)) → IsOmitting log p → ⊥
truth_omits_nothing log p blocks bytes clash all clean truth o =
    let same = same_use (trail log p) o.there clean in
    let c = claim_is (claims (counted_part log p) o.block) o.hash o.claimed in
    let mine : claims (trail log p) o.block ≡ Some c.0 = sym (ap (λ (t : Table). t o.block) same.claiming) ∙ c.1.0 in
    let true_one : IsTrueOf blocks o.block c.0 = truth o.block c.0 mine in
    let w = filter_of_block empty first_filtered.header blocks all true_one.filter true_one.in_chain in
    let text : filter_hash_of o.tested.filter.filter ≡ filter_hash_of true_one.filter.filter = o.tested.this ∙ sym (ap (λ (h : Hash32). h.0) c.1.1) ∙ true_one.hash in
    let filter : o.tested.filter.filter ≡ true_one.filter.filter = given_is log blocks clash true_one.filter true_one.in_chain o.tested.filter (answered_wide IsTest log o.tested.filter o.tested.tested) text in
    let name : block_hash_of w.block.header ≡ o.block = sym w.named ∙ true_one.of_block in
    let body : o.omits.body ≡ w.block = fetched_is log blocks bytes clash all w.block w.among o.omits.body o.omits.fetched (o.omits.of_block ∙ sym name) in
    let own : lacks (block_hash_of w.block.header) (output_items_of w.block) (basic_filter_of (block_hash_of w.block.header) (items_of w.block w.spent)) ≡ false = own_filter w.block w.spent (block_hash_of w.block.header) w.few in
    let made : o.tested.filter.filter ≡ basic_filter_of (block_hash_of w.block.header) (items_of w.block w.spent) = filter ∙ w.made in
    let none : lacks o.block (output_items_of o.omits.body) o.tested.filter.filter ≡ false =
    same_lacks o.block (block_hash_of w.block.header) o.omits.body w.block o.tested.filter.filter (basic_filter_of (block_hash_of w.block.header) (items_of w.block w.spent)) (sym name) body made own in
    both_ways (lacks o.block (output_items_of o.omits.body) o.tested.filter.filter) none o.omits.lacking

pub good_omits_nothing : (log : Log) (p : ℕ) (blocks : List Block) → AreBytes log → NoHashClash (IsHashed log blocks) → AreGoodBlocks empty blocks → Good blocks (trail log p) → IsOmitting log p → ⊥
good_omits_nothing log p blocks bytes clash all good o =
    truth_omits_nothing log p blocks bytes clash all good.keeps.clean (good_truth blocks (trail log p) good).claimed o

-- ---- at each moment

said_item : (i : Item) (t : Trail) (m : Msg) → HasSaid t m → HasSaid (i ∷ t) m
said_item Called t m h = h
said_item (Refused c) t m h = h
said_item (Asked n) t m h = h
said_item (Passed s) t m h = h
said_item (Lost w) t m h = h
said_item (Said n) t m h = inr h

said_hears : (fs : List Frame) (t : Trail) (m : Msg) → HasSaid t m → HasSaid (hears fs t) m
said_hears [] t m h = h
said_hears (f ∷ fs) t m h = said_hears fs (item_of f ∷ t) m (said_item (item_of f) t m h)

said_read : (r : StreamRead) (t : Trail) (m : Msg) → HasSaid t m → HasSaid (part_after r t).trail m
said_read r t m h = by_fault r.fault where
  by_fault : (o : Option FrameFault) → HasSaid (hears_fault o (hears r.frames t)) m
  by_fault None = said_hears r.frames t m h
  by_fault (Some fault) = said_hears r.frames t m h

said_asks : (o : Option Msg) (t : Trail) (m : Msg) → HasSaid t m → HasSaid (asks o t) m
said_asks None t m h = h
said_asks (Some n) t m h = h

abbrev IsSaidIn : Msg → Part → Type 0
IsSaidIn m part = HasSaid part.trail m

said_on : (e : Event) (log : Log) (p : ℕ) (m : Msg) → HasSaid (trail log p) m → HasSaid (trail (e ∷ log) p) m
said_on (Dialled q name) log p m h = at_either (IsSaidIn m) (q.0 == p) (called_part (part_of log p)) (part_of log p) (λ is. h) (λ off. h)
said_on (NotDialled q name) log p m h = at_either (IsSaidIn m) (q.0 == p) (with_item (Lost mark.NotDialled) (part_of log p)) (part_of log p) (λ is. h) (λ off. h)
said_on (Sent q bytes) log p m h =
    at_either (IsSaidIn m) (q.0 == p) (record (part_of log p) { trail = asks (spelled bytes) (trail log p) }) (part_of log p) (λ is. said_asks (spelled bytes) (trail log p) m h) (λ off. h)
said_on (SendFailed q) log p m h = at_either (IsSaidIn m) (q.0 == p) (with_item (Lost mark.SendFailed) (part_of log p)) (part_of log p) (λ is. h) (λ off. h)
said_on (Closed q) log p m h = at_either (IsSaidIn m) (q.0 == p) (with_item (Lost mark.Closed) (part_of log p)) (part_of log p) (λ is. h) (λ off. h)
said_on (Took (Got q piece)) log p m h =
    at_either (IsSaidIn m) (q.0 == p) (heard_part piece (part_of log p)) (part_of log p) (λ is. said_read (read_stream ((part_of log p).waits ++ piece)) (trail log p) m h) (λ off. h)
said_on (Took (Gone q)) log p m h = at_either (IsSaidIn m) (q.0 == p) (with_item (Lost mark.Gone) (part_of log p)) (part_of log p) (λ is. h) (λ off. h)
said_on (Took (Tick s)) log p m h = h
said_on (Took Ended) log p m h = h

pub bytes_before : (e : Event) (log : Log) → AreBytes (e ∷ log) → AreBytes log
bytes_before (Took (Got q piece)) log h = h.1
bytes_before (Took (Gone q)) log h = h
bytes_before (Took (Tick s)) log h = h
bytes_before e log h = h

hashed_on : (e : Event) (log : Log) (blocks : List Block) (s : List ℕ) → IsHashed log blocks s → IsHashed (e ∷ log) blocks s
hashed_on e log blocks s (inl first) = inl first
hashed_on e log blocks s (inr (inl came)) = inr (inl (came.0, (came.1.0, said_on e log came.0 came.1.0 came.1.1, came.1.2)))
hashed_on e log blocks s (inr (inr own)) = inr (inr own)

pub clash_before : (e : Event) (log : Log) (blocks : List Block) → NoHashClash (IsHashed (e ∷ log) blocks) → NoHashClash (IsHashed log blocks)
clash_before e log blocks c = record {
  apart = λ a b i j f. c.apart a b (hashed_on e log blocks a i) (hashed_on e log blocks b j) f;
  real = λ a i f. c.real a (hashed_on e log blocks a i) f;
}

pub never_omits : (log : Log) (p : ℕ) (blocks : List Block) → AreBytes log → NoHashClash (IsHashed log blocks) → AreGoodBlocks empty blocks → NeverOmits blocks log p
never_omits [] p blocks bytes clash all = tt
never_omits (e ∷ log) p blocks bytes clash all =
    let before = bytes_before e log bytes in
    let apart = clash_before e log blocks clash in
    ((λ good o. good_omits_nothing log p blocks before apart all good o), never_omits log p blocks before apart all)
