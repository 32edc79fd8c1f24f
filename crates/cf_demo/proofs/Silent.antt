-- A peer that answers a version and getheaders alone: once nothing is open it is an honest peer that claims nothing, or it isn't there.
use Rattle.std.proofs.Common.{◌≡◌, inl, inr, ◌==◌, ℕ, zero, suc, pos, ◌≤◌, List, [], ◌∷◌, ◌++◌, length, map, take, drop, Option, Some, None, Result, Ok, Err, Bool, true, false, not, ◌&&◌, ◌||◌, if◌then◌else◌, refl, sym, ◌∙◌, ap, subst, arith}
use Rattle.std.specs.Prelude.{filter, option_to_list, IsSome}
use Rattle.std.specs.List.{AllByRecursion, list_any}
use Rattle.std.proofs.lemmas.Bool.{both_ways, false≢true, eqb-true, or_cases}
use Rattle.cf_bytes.specs.declared.hash.Hash32.{Hash32}
use Rattle.cf_block.specs.declared.tx.Block.{Block}
use Rattle.cf_block.specs.Header.{block_hash_of, genesis_header}
use Rattle.cf_chain.specs.Good.{IsGoodChain, headers_of}
use Rattle.cf_chain.specs.Serve.{replies, replies_to, headers_reply, block_with}
use Rattle.cf_dispute.specs.Claims.{Table, no_claims, first_filter_header, header_at}
use Rattle.cf_frame.specs.declared.frame.Frame.{Frame}
use Rattle.cf_frame.specs.declared.frame.FrameFault.{FrameFault}
use Rattle.cf_frame.specs.Stream.{StreamRead, read_stream}
use Rattle.cf_headers.specs.Rules.{same}
use Rattle.cf_headers.specs.Chain.{Hash, Chain, tip_hash, NoHashClash, IsIn, back_to}
use Rattle.cf_msg.specs.declared.msg.Inventory.{Inventory}
use Rattle.cf_msg.specs.declared.msg.Malformed.{Malformed}
use Rattle.cf_msg.specs.declared.msg.Msg.{Msg}
use Rattle.cf_msg.specs.declared.msg.Msg.TheVariants.{Version, Verack, Ping, Pong, GetHeaders, Headers, GetData, GetCfilters, GetCfheaders, GetCfcheckpt}
use Rattle.cf_msg.specs.Reading.{message_of}
use Rattle.cf_wires.specs.declared.event.Delivery.TheVariants.{Got, Gone, Tick, Ended}
use Rattle.cf_wires.specs.declared.event.Event.{Event}
use Rattle.cf_wires.specs.declared.event.Event.TheVariants.{Dialled, NotDialled, Sent, SendFailed, Closed, Took}
use Rattle.cf_wires.specs.declared.event.Mark.TheVariants as mark
use Rattle.cf_peer.specs.declared.mode.Mode.TheVariants.{Once}
use Rattle.cf_scan.specs.declared.history.Entry.{Entry as HistoryEntry}
use Rattle.cf_wires.specs.Log.{Log, tally_of}
use Rattle.cf_peer.specs.Trail.{Trail, Part, Asked, Lost, called_part, with_item, item_of, item_of_read, hears, hears_fault, part_after, heard_part, spelled, asks, part_of, trail, is_connected, ready, own, is_heard_out}
use Rattle.cf_peer.specs.Asking.{HasHeader, OpenRequest, NothingOpen, HeadersOpen, ClaimsOpen, FiltersOpen, BlockOpen, claims_asked, filters_asked, block_asked, claims, claims_after, request, request_after, is_idle, is_open, hashes_of, MayAsk, PingOpen}
use Rattle.cf_played.specs.declared.kind.Way.TheVariants.{Silent}
use Rattle.cf_played.specs.Answers.{came, told_to, is_answered, HasBegun}
use Rattle.cf_run.specs.Run.{AreNumbered}
use Rattle.cf_server.specs.Serving.{text_of}
use Rattle.cf_server.proofs.Lists.{all-append}
use Rattle.cf_sync.specs.Fetching.{AreBytes, Rightly, IsConnected, counted_part}
use Rattle.cf_sync.specs.Honesty.{messages_asked, messages_said, IsHonest}
use Rattle.cf_sync.specs.Sync.{IsHashed}
use Rattle.cf_sync.specs.Sync as sync
use Rattle.cf_sync.proofs.Asks.{claim_there}
use Rattle.cf_sync.proofs.Chains.{up_all, headers_length, cases_same, one_height}
use Rattle.cf_sync.proofs.Counted.{same_use}
use Rattle.cf_sync.proofs.Entries.{at_either}
use Rattle.cf_sync.proofs.HonestLemmas.{rightly_before, honest_good, own_whole}
use Rattle.cf_sync.proofs.Blamed.{never_omits}
use Rattle.cf_sync.proofs.Settles.{shared_whole}
use Rattle.cf_demo.specs.Playing.{IsRun, PlaysHonest, PlaysSilent}
use Rattle.cf_demo.proofs.Orderly.{WereGreeted, were_greeted}
use Rattle.cf_demo.proofs.Beginnings.{word_of, words, AreSendable}
use Rattle.cf_demo.proofs.Fits.{IsQuestion, replies_good, sendable_of}
use Rattle.cf_demo.proofs.Parts.{IsFine, agrees, said_hears}
use Rattle.cf_demo.proofs.Played.{questions, numbered_before, fine_of, says_first, chain_setting, honest_peer}

-- ---- what it is told and what it says

-- a question that a silent peer leaves open
abbrev pub is_hard : Msg → Bool
is_hard (GetData entries) = true
is_hard (GetCfilters filter start stop) = true
is_hard (GetCfheaders filter start stop) = true
is_hard m = false

abbrev pub has_hard : List Msg → Bool
has_hard ms = list_any is_hard ms

-- what a silent peer says
abbrev pub IsSoft : Msg → Type 0
IsSoft (Version version services time to from nonce agent height relay) = Unit {0}
IsSoft Verack = Unit {0}
IsSoft (Headers hs) = Unit {0}
IsSoft m = ⊥

abbrev pub AreSoft : List Msg → Type 0
AreSoft ms = AllByRecursion IsSoft ms

-- all that it answers
abbrev pub few_answers : List Block → List Msg → List Msg
few_answers blocks told = replies (pos 0) 0 blocks false (filter is_answered told)

heads_soft : (blocks : List Block) → AreSoft (map (λ b. Headers (b.header ∷ [])) blocks)
heads_soft [] = tt
heads_soft (b ∷ blocks) = (tt, heads_soft blocks)

headers_soft : (blocks : List Block) (locator : List Hash32) (stop : Hash32) → AreSoft (headers_reply locator stop blocks)
headers_soft blocks [] stop = heads_soft (block_with stop blocks)
headers_soft blocks (hash ∷ more) stop = (tt, tt)

pub few_soft : (blocks : List Block) (seen : Bool) (ms : List Msg) → AreSoft (replies (pos 0) 0 blocks seen (filter is_answered ms))
few_soft blocks seen [] = tt
few_soft blocks true (Version version services time to from nonce agent height relay ∷ ms) = few_soft blocks true ms
few_soft blocks false (Version version services time to from nonce agent height relay ∷ ms) = (tt, (tt, few_soft blocks true ms))
few_soft blocks true (GetHeaders version locator stop ∷ ms) = all-append IsSoft (headers_reply locator stop blocks) (replies (pos 0) 0 blocks true (filter is_answered ms)) (headers_soft blocks locator stop) (few_soft blocks true ms)
few_soft blocks false (GetHeaders version locator stop ∷ ms) = few_soft blocks false ms
few_soft blocks seen (m ∷ ms) = few_soft blocks seen ms

few_questions : (ms : List Msg) → AllByRecursion IsQuestion ms → AllByRecursion IsQuestion (filter is_answered ms)
few_questions [] all = tt
few_questions (Version version services time to from nonce agent height relay ∷ ms) all = (refl, few_questions ms all.1)
few_questions (GetHeaders version locator stop ∷ ms) all = (refl, few_questions ms all.1)
few_questions (m ∷ ms) all = few_questions ms all.1

-- where it was asked nothing hard it answers as the machine does
same_answers : (blocks : List Block) (seen : Bool) (ms : List Msg) → AllByRecursion IsQuestion ms → has_hard ms ≡ false → replies (pos 0) 0 blocks seen (filter is_answered ms) ≡ replies (pos 0) 0 blocks seen ms
same_answers blocks seen [] all soft = refl
same_answers blocks seen (Version version services time to from nonce agent height relay ∷ ms) all soft =
    ap (λ (xs : List Msg). replies_to (pos 0) 0 blocks seen (Version version services time to from nonce agent height relay) ++ xs) (same_answers blocks true ms all.1 soft)
same_answers blocks seen (GetHeaders version locator stop ∷ ms) all soft =
    ap (λ (xs : List Msg). replies_to (pos 0) 0 blocks seen (GetHeaders version locator stop) ++ xs) (same_answers blocks seen ms all.1 soft)
same_answers blocks seen (GetData entries ∷ ms) all soft = absurd (false≢true (sym soft))
same_answers blocks seen (GetCfilters filter' start stop ∷ ms) all soft = absurd (false≢true (sym soft))
same_answers blocks seen (GetCfheaders filter' start stop ∷ ms) all soft = absurd (false≢true (sym soft))
same_answers blocks seen (Ping n ∷ ms) all soft = absurd (false≢true all.0)
same_answers blocks seen (GetCfcheckpt filter' stop ∷ ms) all soft = absurd (false≢true all.0)
same_answers blocks true (m ∷ ms) all soft = same_answers blocks true ms all.1 soft
same_answers blocks false (m ∷ ms) all soft = same_answers blocks false ms all.1 soft

-- ---- the part of a silent peer

abbrev BeganFew : List Block → Log → ℕ → Type 0
BeganFew blocks log p = HasBegun Silent blocks log p

pub few_good : (blocks : List Block) → IsGoodChain blocks → (log : Log) (p : ℕ) → Rightly log → AreSendable (few_answers blocks (told_to log p))
few_good blocks good log p right = sendable_of (few_answers blocks (told_to log p)) (replies_good blocks good false (filter is_answered (told_to log p)) (few_questions (told_to log p) (questions log p right)))

few_fine : (blocks : List Block) → IsGoodChain blocks → (log : Log) (p : ℕ) → Rightly log → ((k : ℕ) → BeganFew blocks (drop k log) p) → (k : ℕ) → IsFine (drop k log) p
few_fine blocks good log p right begun zero = fine_of (few_answers blocks (told_to log p)) log p (few_good blocks good log p right) (begun 0) (λ none. ap (few_answers blocks) none)
few_fine blocks good [] p right begun (suc k) = fine_of (few_answers blocks (told_to [] p)) [] p (few_good blocks good [] p right) (begun 0) (λ none. ap (few_answers blocks) none)
few_fine blocks good (e ∷ log) p right begun (suc k) = few_fine blocks good log p (rightly_before e log right) (λ j. begun (suc j)) k

front_soft : (xs ys : List Msg) → AreSoft (xs ++ ys) → AreSoft xs
front_soft [] ys all = tt
front_soft (m ∷ xs) ys all = (all.0, front_soft xs ys all.1)

back_soft : (xs ys : List Msg) → AreSoft (xs ++ ys) → AreSoft ys
back_soft [] ys all = all
back_soft (m ∷ xs) ys all = back_soft xs ys all.1

says_soft : (blocks : List Block) → IsGoodChain blocks → (log : Log) (p : ℕ) → Rightly log → AreNumbered log → ((k : ℕ) → BeganFew blocks (drop k log) p) → AreSoft (messages_said (trail log p))
says_soft blocks good log p right numbered begun =
    let ms : List Msg = few_answers blocks (told_to log p) in
    let a = agrees log p right numbered (few_fine blocks good log p right begun) in
    let b = says_first ms log p (few_good blocks good log p right) (begun 0) a in
    subst AreSoft (sym b.says) (front_soft b.first b.left (subst AreSoft (sym b.joined) (few_soft blocks false (told_to log p))))

-- ---- what stays open

abbrev is_stuck : OpenRequest → Bool
is_stuck NothingOpen = false
is_stuck HeadersOpen = false
is_stuck (ClaimsOpen stop parent blocks) = true
is_stuck (FiltersOpen left came') = true
is_stuck (BlockOpen block) = true
is_stuck (PingOpen number) = true

-- asked something hard, it has that open; it claims nothing
record IsStuck (t : Trail) : Type 0 where
  opens : has_hard (messages_asked t) ≡ true → is_stuck (request t) ≡ true
  none : claims t ≡ no_claims

soft_stuck : (m : Msg) (r : OpenRequest) → IsSoft m → is_stuck r ≡ true → is_stuck (request_after m r) ≡ true
soft_stuck (Version version services time to from nonce agent height relay) r soft h = h
soft_stuck Verack r soft h = h
soft_stuck (Headers hs) NothingOpen soft h = absurd (false≢true h)
soft_stuck (Headers hs) HeadersOpen soft h = absurd (false≢true h)
soft_stuck (Headers hs) (ClaimsOpen stop parent blocks) soft h = refl
soft_stuck (Headers hs) (FiltersOpen left came') soft h = refl
soft_stuck (Headers hs) (BlockOpen block) soft h = refl
soft_stuck (Headers hs) (PingOpen number) soft h = refl
soft_stuck m r soft h = absurd soft

soft_claims : (m : Msg) (r : OpenRequest) (cs : Table) → IsSoft m → claims_after m r cs ≡ cs
soft_claims (Version version services time to from nonce agent height relay) r cs soft = refl
soft_claims Verack r cs soft = refl
soft_claims (Headers hs) r cs soft = refl
soft_claims m r cs soft = absurd soft

item_stuck : (r : Result Msg Malformed) (t : Trail) → AreSoft (word_of r) → IsStuck t → IsStuck (item_of_read r ∷ t)
item_stuck (Ok m) t soft h = record { opens = λ hard. soft_stuck m (request t) soft.0 (h.opens hard); none = soft_claims m (request t) (claims t) soft.0 ∙ h.none }
item_stuck (Err e) t soft h = record { opens = h.opens; none = h.none }

hears_stuck : (fs : List Frame) (t : Trail) → AreSoft (words fs) → IsStuck t → IsStuck (hears fs t)
hears_stuck [] t soft h = h
hears_stuck (f ∷ fs) t soft h = hears_stuck fs (item_of f ∷ t) (back_soft (word_of (message_of f)) (words fs) soft) (item_stuck (message_of f) t (front_soft (word_of (message_of f)) (words fs) soft) h)

fault_stuck : (o : Option FrameFault) (t : Trail) → IsStuck t → IsStuck (hears_fault o t)
fault_stuck None t h = h
fault_stuck (Some fault) t h = record { opens = h.opens; none = h.none }

fault_said : (o : Option FrameFault) (t : Trail) → messages_said (hears_fault o t) ≡ messages_said t
fault_said None t = refl
fault_said (Some fault) t = refl

read_stuck : (r : StreamRead) (t : Trail) → AreSoft (messages_said (part_after r t).trail) → IsStuck t → IsStuck (part_after r t).trail
read_stuck r t soft h =
    let e : messages_said (part_after r t).trail ≡ messages_said t ++ words r.frames = fault_said r.fault (hears r.frames t) ∙ said_hears r.frames t in
    fault_stuck r.fault (hears r.frames t) (hears_stuck r.frames t (back_soft (messages_said t) (words r.frames) (subst AreSoft e soft)) h)

-- ---- to be asked

hard_last : (xs : List Msg) (m : Msg) → has_hard (xs ++ m ∷ []) ≡ true → is_hard m ≡ false → has_hard xs ≡ true
hard_last [] m h off = absurd (both_ways (is_hard m) off (one (is_hard m) h)) where
  one : (b : Bool) → (b || false) ≡ true → b ≡ true
  one true h = refl
  one false h = h
hard_last (x ∷ xs) m h off = elim (or_cases (is_hard x) (has_hard (xs ++ m ∷ [])) h) [
  | inl is ↦ ap (λ b. b || has_hard xs) is
  | inr more ↦ or_right (is_hard x) (hard_last xs m more off)
] where
  or_right : (a : Bool) {b : Bool} → b ≡ true → (a || b) ≡ true
  or_right true is = refl
  or_right false is = is

claims_open : (o : Option Chain) (start : ℕ) (stop : Hash) (part : Chain) → o ≡ Some part → is_stuck (claims_asked start stop o) ≡ true
claims_open None start stop part e = cc
claims_open (Some base) start stop part e = refl

filters_open : (o : Option Chain) (start : ℕ) (part : Chain) → o ≡ Some part → is_stuck (filters_asked start o) ≡ true
filters_open None start part e = cc
filters_open (Some base) start part e = refl

asked_stuck : (t : Trail) (m : Msg) → MayAsk t m → IsStuck t → IsStuck (Asked m ∷ t)
asked_stuck t (Version version services time to from nonce agent height relay) may h =
    record { opens = λ hard. h.opens (hard_last (messages_asked t) (Version version services time to from nonce agent height relay) hard refl); none = h.none }
asked_stuck t Verack may h = record { opens = λ hard. h.opens (hard_last (messages_asked t) Verack hard refl); none = h.none }
asked_stuck t (Pong n) may h = record { opens = λ hard. h.opens (hard_last (messages_asked t) (Pong n) hard refl); none = h.none }
asked_stuck t (GetHeaders version locator stop) may h =
    record {
      opens = λ hard. absurd (both_ways (is_stuck (request t)) (ap is_stuck may.0.idle) (h.opens (hard_last (messages_asked t) (GetHeaders version locator stop) hard refl)));
      none = h.none;
    }
asked_stuck t (GetData entries) may h = record { opens = λ hard. subst (λ (es : List Inventory). is_stuck (block_asked es (request t)) ≡ true) (sym may.1.1) refl; none = h.none }
asked_stuck t (GetCfheaders filter' start stop) may h = record { opens = λ hard. claims_open (back_to stop.0 (own t)) start stop.0 may.1.0.part may.1.0.tip; none = h.none }
asked_stuck t (GetCfilters filter' start stop) may h = record { opens = λ hard. filters_open (back_to stop.0 (own t)) start may.1.0.part may.1.0.tip; none = h.none }
asked_stuck t m may h = absurd may

-- ---- the log

abbrev IsStuckPart : Part → Type 0
IsStuckPart part = IsStuck part.trail

abbrev IsStuckWhereSoft : Part → Type 0
IsStuckWhereSoft part = AreSoft (messages_said part.trail) → IsStuck part.trail

stuck : (log : Log) (p : ℕ) → Rightly log → ((k : ℕ) → AreSoft (messages_said (trail (drop k log) p))) → IsStuck (trail log p)
stuck [] p right soft = record { opens = λ hard. absurd (false≢true hard); none = refl }
stuck (Dialled q name ∷ log) p right soft =
    let before = stuck log p right (λ k. soft (suc k)) in
    at_either IsStuckPart (q.0 == p) (called_part (part_of log p)) (part_of log p) (λ is. record { opens = λ hard. absurd (false≢true hard); none = refl }) (λ off. before)
stuck (NotDialled q name ∷ log) p right soft =
    let before = stuck log p right (λ k. soft (suc k)) in
    at_either IsStuckPart (q.0 == p) (with_item (Lost mark.NotDialled) (part_of log p)) (part_of log p) (λ is. record { opens = before.opens; none = before.none }) (λ off. before)
stuck (Sent q bytes ∷ log) p right soft =
    let before = stuck log p right.1 (λ k. soft (suc k)) in
    at_either IsStuckPart (q.0 == p) (record (part_of log p) { trail = asks (spelled bytes) (trail log p) }) (part_of log p)
    (λ is. subst (λ (o : Option Msg). IsStuck (asks o (trail log p))) (sym right.0.1)
    (asked_stuck (trail log p) right.0.0 (subst (λ (k : ℕ). MayAsk (trail log k) right.0.0) (eqb-true q.0 p is) right.0.2.of_its_part) before)) (λ off. before)
stuck (SendFailed q ∷ log) p right soft =
    let before = stuck log p right (λ k. soft (suc k)) in
    at_either IsStuckPart (q.0 == p) (with_item (Lost mark.SendFailed) (part_of log p)) (part_of log p) (λ is. record { opens = before.opens; none = before.none }) (λ off. before)
stuck (Closed q ∷ log) p right soft =
    let before = stuck log p right.1 (λ k. soft (suc k)) in
    at_either IsStuckPart (q.0 == p) (with_item (Lost mark.Closed) (part_of log p)) (part_of log p) (λ is. record { opens = before.opens; none = before.none }) (λ off. before)
stuck (Took (Got q piece) ∷ log) p right soft =
    let before = stuck log p right.1 (λ k. soft (suc k)) in
    at_either IsStuckWhereSoft (q.0 == p) (heard_part piece (part_of log p)) (part_of log p)
    (λ is here. read_stuck (read_stream ((part_of log p).waits ++ piece)) (trail log p) here before) (λ off here. before)
    (soft 0)
stuck (Took (Gone q) ∷ log) p right soft =
    let before = stuck log p right.1 (λ k. soft (suc k)) in
    at_either IsStuckPart (q.0 == p) (with_item (Lost mark.Gone) (part_of log p)) (part_of log p) (λ is. record { opens = before.opens; none = before.none }) (λ off. before)
stuck (Took (Tick s) ∷ log) p right soft = let before = stuck log p right.1 (λ k. soft (suc k)) in record { opens = before.opens; none = before.none }
stuck (Took Ended ∷ log) p right soft = stuck log p right.1 (λ k. soft (suc k))

all_soft : (blocks : List Block) → IsGoodChain blocks → (log : Log) (p : ℕ) → Rightly log → AreNumbered log → ((k : ℕ) → BeganFew blocks (drop k log) p) → (k : ℕ) → AreSoft (messages_said (trail (drop k log) p))
all_soft blocks good log p right numbered begun zero = says_soft blocks good log p right numbered begun
all_soft blocks good [] p right numbered begun (suc k) = says_soft blocks good [] p right numbered begun
all_soft blocks good (e ∷ log) p right numbered begun (suc k) = all_soft blocks good log p (rightly_before e log right) (numbered_before e log numbered) (λ j. begun (suc j)) k

-- ---- it was asked nothing hard

front_of_two : (b : Bool) (all front : Bool) → (b || all) ≡ false → (all ≡ false → front ≡ false) → (b || front) ≡ false
front_of_two true all front h before = absurd (false≢true (sym h))
front_of_two false all front h before = before h

hard_front : (xs ys : List Msg) → has_hard (xs ++ ys) ≡ false → has_hard xs ≡ false
hard_front [] ys h = refl
hard_front (x ∷ xs) ys h = front_of_two (is_hard x) (has_hard (xs ++ ys)) (has_hard xs) h (hard_front xs ys)

hard_either : (b : Bool) (xs ys : List Msg) → has_hard (if b then xs ++ ys else xs) ≡ false → has_hard xs ≡ false
hard_either true xs ys h = hard_front xs ys h
hard_either false xs ys h = h

hard_before : (e : Event) (log : Log) (p : ℕ) → has_hard (told_to (e ∷ log) p) ≡ false → has_hard (told_to log p) ≡ false
hard_before (Dialled q name) log p h = h
hard_before (NotDialled q name) log p h = h
hard_before (Sent q bytes) log p h = hard_either (q.0 == p) (told_to log p) (option_to_list (spelled bytes)) h
hard_before (SendFailed q) log p h = h
hard_before (Closed q) log p h = h
hard_before (Took d) log p h = h

-- at every moment
never_hard : (log : Log) (p : ℕ) → Rightly log → has_hard (told_to log p) ≡ false → (k : ℕ) → (has_hard (told_to (drop k log) p) ≡ false) × AllByRecursion IsQuestion (told_to (drop k log) p)
never_hard log p right soft zero = (soft, questions log p right)
never_hard [] p right soft (suc k) = (refl, tt)
never_hard (e ∷ log) p right soft (suc k) = never_hard log p (rightly_before e log right) (hard_before e log p soft) k

-- so it has answered as an honest peer does
plays_honest : (blocks : List Block) (log : Log) (p : ℕ) → Rightly log → has_hard (told_to log p) ≡ false → PlaysSilent blocks log p → PlaysHonest blocks log p
plays_honest blocks log p right soft h = record {
  past = λ k. let w = never_hard log p right soft k in subst (λ (ms : List Msg). take (length (came (drop k log) p)) (text_of ms) ≡ came (drop k log) p) (same_answers blocks false (told_to (drop k log) p) w.1 w.0) (h.past k);
  ticks = λ k s older is.
      let w = never_hard log p right soft k in
      let v : (has_hard (told_to (Took (Tick s) ∷ older) p) ≡ false) × AllByRecursion IsQuestion (told_to (Took (Tick s) ∷ older) p) = subst (λ (l : Log). (has_hard (told_to l p) ≡ false) × AllByRecursion IsQuestion (told_to l p)) is w in
      h.ticks k s older is ∙ ap text_of (same_answers blocks false (told_to older p) v.1 v.0);
  stays = h.stays;
}

-- ---- once nothing is open

tip_in : (chain : Chain) → 1 ≤ length chain → IsIn (tip_hash chain) (hashes_of chain)
tip_in [] some = absurd (omega (arith, some))
tip_in (h ∷ below) some = inl refl

idle_free : (c rd : Bool) (r : OpenRequest) → c ≡ true → (c && (not rd || not (is_idle r))) ≡ false → is_stuck r ≡ false
idle_free false rd r on quiet = absurd (false≢true on)
idle_free true false r on quiet = absurd (false≢true (sym quiet))
idle_free true true NothingOpen on quiet = refl
idle_free true true HeadersOpen on quiet = refl
idle_free true true (ClaimsOpen stop parent blocks) on quiet = absurd (false≢true (sym quiet))
idle_free true true (FiltersOpen left came') on quiet = absurd (false≢true (sym quiet))
idle_free true true (BlockOpen block) on quiet = absurd (false≢true (sym quiet))
idle_free true true (PingOpen number) on quiet = absurd (false≢true (sym quiet))

is_false : (b : Bool) → (b ≡ true → ⊥) → b ≡ false
is_false true h = absurd (h refl)
is_false false h = refl

-- a silent peer that is connected with nothing open to it has shown the whole of its chain, and claims nothing
pub record IsIdle (blocks : List Block) (log : Log) (p : ℕ) : Type 0 where
  pub honest : IsHonest log p blocks
  pub none : claims (counted_part log p) ≡ no_claims
  pub same_own : own (counted_part log p) ≡ own (trail log p)
  pub same_heard : is_heard_out (counted_part log p) ≡ is_heard_out (trail log p)

pub silent_idle : (log : Log) (p : ℕ) (blocks : List Block) → AreBytes log → IsGoodChain blocks → NoHashClash (IsHashed log blocks) → Rightly log → AreNumbered log → WereGreeted log
    → 1 ≤ p → p ≤ (tally_of log).dials → PlaysSilent blocks log p → IsConnected log p → is_open (trail log p) ≡ false → IsIdle blocks log p
silent_idle log p blocks bytes good clash right numbered greets some few plays on quiet =
    let t : Trail = trail log p in
    let fine = few_fine blocks good log p right plays.past in
    let a = agrees log p right numbered fine in
    let st = stuck log p right (all_soft blocks good log p right numbered plays.past) in
    let free : is_stuck (request t) ≡ false = idle_free (is_connected t) (ready t) (request t) on quiet in
    let soft : has_hard (told_to log p) ≡ false = is_false (has_hard (told_to log p)) (λ hard. both_ways (is_stuck (request t)) free (st.opens (ap has_hard a.asks_these ∙ hard))) in
    let honest = honest_peer log p blocks bytes good clash right numbered greets some few (plays_honest blocks log p right soft plays) in
    let clean = (honest_good blocks (chain_setting log blocks clash good) log p (never_omits log p blocks bytes clash good.each) right honest.honest).keeps.clean in
    let whole = same_use t on clean in
    record { honest = honest; none = whole.claiming ∙ st.none; same_own = whole.chain; same_heard = whole.hearing Once }

-- and its chain isn't the best one
no_claim_at : (block : Hash) (cs : Table) → cs ≡ no_claims → same (block_hash_of genesis_header) block ≡ false → IsSome (header_at first_filter_header cs block) → ⊥
no_claim_at block cs none off known =
    let w = claim_there cs block off known in
    let e : no_claims block ≡ Some w.0 = ap (λ (table : Table). table block) (sym none) ∙ w.1 in
    cc

pub silent_apart : (watch : List (List ℕ)) (height : ℕ) (hash : Hash32) (entries : List HistoryEntry) (log : Log) (p : ℕ) (blocks : List Block) → IsGoodChain blocks → NoHashClash (IsHashed log blocks)
    → (f : sync.Followed watch height hash entries log) → AreNumbered log → WereGreeted log → 1 ≤ p → p ≤ (tally_of log).dials → PlaysSilent blocks log p → 1 ≤ length blocks
    → IsConnected log p → is_open (trail log p) ≡ false → (own (counted_part log p) ≡ headers_of blocks) × (f.told.chain ≡ headers_of blocks → ⊥)
silent_apart watch height hash entries log p blocks good clash f numbered greets some few plays tall on quiet =
    let right = f.rightly in
    let s = chain_setting log blocks clash good in
    let idle = silent_idle log p blocks f.bytes good clash right numbered greets some few plays on quiet in
    let keeps = (honest_good blocks s log p (never_omits log p blocks f.bytes clash good.each) right idle.honest.honest).keeps in
    let whole : own (trail log p) ≡ headers_of blocks = own_whole blocks (trail log p) keeps (sym idle.same_heard ∙ f.heard_out p on) in
    let mine : own (counted_part log p) ≡ headers_of blocks = idle.same_own ∙ whole in (
      mine,
      λ best.
          let long : length (headers_of blocks) ≡ length blocks = headers_length blocks in
          let tip : Hash = tip_hash (headers_of blocks) in
          let there : IsIn tip (hashes_of f.told.chain) = subst (λ (c : Chain). IsIn tip (hashes_of c)) (sym best) (tip_in (headers_of blocks) (omega (arith, long, tall))) in
          let known = shared_whole (HasHeader (counted_part log p)) (own (counted_part log p)) f.told.chain (mine ∙ sym best) (f.claimed p on) tip there in
          let off : same (block_hash_of genesis_header) tip ≡ false = elim (cases_same (block_hash_of genesis_header) tip) [
            | inl here ↦ (let none = one_height blocks s 0 (length blocks) (omega arith) (omega arith) (here.0 ∙ sym (ap tip_hash (up_all blocks))) in absurd (omega (arith, none, tall)))
            | inr off ↦ off.0
          ] in
          no_claim_at tip (claims (counted_part log p)) idle.none off known,
    )

pub run_silent : (watch : List (List ℕ)) (height : ℕ) (hash : Hash32) (entries : List HistoryEntry) (log : Log) (p : ℕ) (blocks : List Block) → IsRun log → IsGoodChain blocks → NoHashClash (IsHashed log blocks)
    → 1 ≤ p → p ≤ (tally_of log).dials → PlaysSilent blocks log p → 1 ≤ length blocks → IsConnected log p → is_open (trail log p) ≡ false
    → (f : sync.Followed watch height hash entries log) → (own (counted_part log p) ≡ headers_of blocks) × (f.told.chain ≡ headers_of blocks → ⊥)
run_silent watch height hash entries log p blocks run good clash some few plays tall on quiet f =
    silent_apart watch height hash entries log p blocks good clash f run.numbered (were_greeted log run.orderly) some few plays tall on quiet
