-- A peer whose bytes are a beginning of its machine's answers at every moment, and all of them whenever seconds pass, is an honest peer.
use Rattle.std.proofs.Common.{◌≡◌, ◌≢◌, inl, inr, ◌==◌, ℕ, zero, suc, pos, ◌≤◌, List, [], ◌∷◌, ◌++◌, length, map, take, drop, Option, Some, None, Result, Ok, Err, Bool, true, false, not, ◌&&◌, ◌||◌, if◌then◌else◌, refl, sym, ◌∙◌, ap, subst, arith, take-append-drop}
use Rattle.std.specs.Prelude.{option_to_list}
use Rattle.std.specs.List.{AllByRecursion, list_all}
use Rattle.std.proofs.lemmas.Bool.{cases_Bool, both_ways, false≢true, eq-eqb, and_parts}
use Rattle.cf_block.specs.declared.tx.Block.{Block}
use Rattle.cf_chain.specs.Good.{IsGoodChain, headers_of}
use Rattle.cf_chain.specs.Serve.{replies, cfilter_of}
use Rattle.cf_chain.specs.Filters.{Filtered}
use Rattle.cf_dispute.specs.Claims.{Table}
use Rattle.cf_headers.specs.Chain.{Hash, IsWithinLimit, NoHashClash}
use Rattle.cf_msg.specs.declared.msg.Msg.{Msg}
use Rattle.cf_wires.specs.declared.event.Delivery.TheVariants.{Got, Gone, Tick, Ended}
use Rattle.cf_wires.specs.declared.event.Event.{Event}
use Rattle.cf_wires.specs.declared.event.Event.TheVariants.{Dialled, NotDialled, Sent, SendFailed, Closed, Took}
use Rattle.cf_wires.specs.declared.event.Mark.TheVariants as mark
use Rattle.cf_wires.specs.Log.{Log, tally_of}
use Rattle.cf_frame.specs.declared.frame.Frame.{Frame}
use Rattle.cf_frame.specs.declared.frame.FrameFault.{FrameFault}
use Rattle.cf_frame.specs.Stream.{StreamRead, read_stream}
use Rattle.cf_msg.specs.declared.msg.Malformed.{Malformed}
use Rattle.cf_msg.specs.Reading.{message_of}
use Rattle.cf_match.specs.declared.job.Job.{Job}
use Rattle.cf_peer.specs.Trail.{Trail, Part, Lost, trail, part_of, called_part, with_item, item_of, item_of_read, hears, hears_fault, part_after, heard_part, asks, spelled, is_connected, is_greeted, has_version, ready}
use Rattle.cf_peer.specs.Asking.{OpenRequest, NothingOpen, HeadersOpen, ClaimsOpen, FiltersOpen, BlockOpen, PingOpen, claims, request, is_idle, is_open, HasSaid}
use Rattle.cf_server.specs.Serving.{text_of}
use Rattle.cf_server.proofs.Texts.{text-nil}
use Rattle.cf_sync.specs.Fetching.{AreBytes, Rightly}
use Rattle.cf_sync.specs.Honesty.{messages_said, with_message, plain, Leaves, IsPrefixOf, answers, AnswersAs, InTime, Stays, IsHonestOver, IsHonest, was_called}
use Rattle.cf_sync.specs.Sync.{IsHashed}
use Rattle.cf_sync.proofs.Chains.{Setting, headers_length}
use Rattle.cf_sync.proofs.Entries.{at_either}
use Rattle.cf_sync.proofs.Serves.{Owes}
use Rattle.cf_sync.proofs.Settles.{setting_of}
use Rattle.cf_sync.proofs.HonestLemmas.{NeverOmits, honest_good, rightly_before}
use Rattle.cf_sync.proofs.Blamed.{never_omits}
use Rattle.cf_played.specs.Answers.{came, told_to}
use Rattle.cf_run.specs.Run.{AreNumbered}
use Rattle.cf_played.specs.declared.kind.Way.TheVariants.{Honest}
use Rattle.cf_played.specs.Answers.{HasBegun, HasAnswered, is_staying}
use Rattle.cf_demo.specs.Playing.{IsRun, PlaysHonest}
use Rattle.cf_demo.proofs.Orderly.{IsGreetedWhere, WereGreeted, were_greeted}
use Rattle.cf_demo.proofs.Beginnings.{AreSendable, Begins, begins, whole_words, begun_words, begun_messages}
use Rattle.cf_demo.proofs.Fits.{AreReplies, IsQuestion, may_question, replies_good, sendable_of}
use Rattle.cf_demo.proofs.Filled.{IsFilled, filled}
use Rattle.cf_demo.proofs.Parts.{Agrees, IsFine, agrees}

-- ---- what it was told

told_either : (b : Bool) (xs ys : List Msg) → (b ≡ true → AllByRecursion IsQuestion ys) → AllByRecursion IsQuestion xs → AllByRecursion IsQuestion (if b then xs ++ ys else xs)
told_either true xs ys more all = both xs ys all (more refl) where
  both : (xs ys : List Msg) → AllByRecursion IsQuestion xs → AllByRecursion IsQuestion ys → AllByRecursion IsQuestion (xs ++ ys)
  both [] ys a b = b
  both (m ∷ xs) ys a b = (a.0, both xs ys a.1 b)
told_either false xs ys more all = all

pub questions : (log : Log) (p : ℕ) → Rightly log → AllByRecursion IsQuestion (told_to log p)
questions [] p right = tt
questions (Dialled q name ∷ log) p right = questions log p right
questions (NotDialled q name ∷ log) p right = questions log p right
questions (Sent q bytes ∷ log) p right =
    told_either (q.0 == p) (told_to log p) (option_to_list (spelled bytes))
    (λ is. subst (λ (o : Option Msg). AllByRecursion IsQuestion (option_to_list o)) (sym right.0.1) (may_question (trail log q.0) right.0.0 right.0.2.of_its_part, tt))
    (questions log p right.1)
questions (SendFailed q ∷ log) p right = questions log p right
questions (Closed q ∷ log) p right = questions log p right.1
questions (Took d ∷ log) p right = questions log p right.1

-- ---- one moment

-- all that the machine answers, whose version has time 0 and number 0
abbrev all_answers : List Block → List Msg → List Msg
all_answers blocks told = replies (pos 0) 0 blocks false told

-- all answers fit
pub answers_good : (blocks : List Block) → IsGoodChain blocks → (log : Log) (p : ℕ) → Rightly log → AreReplies (all_answers blocks (told_to log p))
answers_good blocks good log p right = replies_good blocks good false (told_to log p) (questions log p right)

begun_of : (ms : List Msg) (bytes : List ℕ) → AreSendable ms → take (length bytes) (text_of ms) ≡ bytes → Begins ms bytes
begun_of ms bytes all begun =
    let n : ℕ = length bytes in
    begins ms bytes (drop n (text_of ms)) all (ap (λ (b : List ℕ). b ++ drop n (text_of ms)) (sym begun) ∙ take-append-drop n (text_of ms))

nothing_taken : (n : ℕ) → take n (text_of []) ≡ []
nothing_taken n = ap (take n) text-nil ∙ none n where
  none : (n : ℕ) → take {A = ℕ} n [] ≡ []
  none zero = refl
  none (suc n) = refl

-- a beginning of answers that fit
pub fine_of : (ms : List Msg) (log : Log) (p : ℕ) → AreSendable ms → take (length (came log p)) (text_of ms) ≡ came log p → (told_to log p ≡ [] → ms ≡ []) → IsFine log p
fine_of ms log p all begun silent =
    let b = begun_of ms (came log p) all begun in
    record {
      clean = record { fine = b.clean; messages = begun_messages ms (came log p) all b };
      silent = λ none. sym begun ∙ ap (λ (xs : List Msg). take (length (came log p)) (text_of xs)) (silent none) ∙ nothing_taken (length (came log p));
    }

fine : (blocks : List Block) → IsGoodChain blocks → (log : Log) (p : ℕ) → Rightly log → HasBegun Honest blocks log p → IsFine log p
fine blocks good log p right begun = fine_of (all_answers blocks (told_to log p)) log p (sendable_of (all_answers blocks (told_to log p)) (answers_good blocks good log p right)) begun (λ none. ap (all_answers blocks) none)

-- what it has said is a beginning of its answers
pub record SaysFirst (t : Trail) (ms : List Msg) : Type 0 where
  pub first : List Msg
  pub left : List Msg
  pub joined : first ++ left ≡ ms
  pub says : messages_said t ≡ first

pub says_first : (ms : List Msg) (log : Log) (p : ℕ) → AreSendable ms → take (length (came log p)) (text_of ms) ≡ came log p → Agrees (part_of log p) (came log p) (told_to log p) → SaysFirst (trail log p) ms
says_first ms log p all begun a =
    let b = begun_of ms (came log p) all begun in
    record { first = b.said; left = b.left; joined = b.joined; says = a.says ∙ begun_words ms (came log p) all b }

pub numbered_before : (e : Event) (log : Log) → AreNumbered (e ∷ log) → AreNumbered log
numbered_before (Dialled q name) log n = n.1
numbered_before (NotDialled q name) log n = n.1
numbered_before (Sent q bytes) log n = n
numbered_before (SendFailed q) log n = n
numbered_before (Closed q) log n = n
numbered_before (Took d) log n = n

-- at every moment
all_fine : (blocks : List Block) → IsGoodChain blocks → (log : Log) (p : ℕ) → Rightly log → ((k : ℕ) → HasBegun Honest blocks (drop k log) p) → (k : ℕ) → IsFine (drop k log) p
all_fine blocks good log p right begun zero = fine blocks good log p right (begun 0)
all_fine blocks good [] p right begun (suc k) = fine blocks good [] p right (begun 0)
all_fine blocks good (e ∷ log) p right begun (suc k) = all_fine blocks good log p (rightly_before e log right) (λ j. begun (suc j)) k

-- ---- it has answered as the machine does

front_replies : (xs ys : List Msg) → AreReplies (xs ++ ys) → AreReplies xs
front_replies [] ys all = tt
front_replies (m ∷ xs) ys all = (all.0, front_replies xs ys all.1)

plain_replies : (ms : List Msg) → AreReplies ms → plain ms ≡ ms
plain_replies [] all = refl
plain_replies (m ∷ ms) all = ap (λ b. with_message b m (plain ms)) all.0.counts ∙ ap (λ (xs : List Msg). m ∷ xs) (plain_replies ms all.1)

leaves_rest : (xs ys : List Msg) → AreReplies xs → Leaves xs (xs ++ ys) ys
leaves_rest [] ys all = refl
leaves_rest (m ∷ xs) ys all = (all.0.itself, leaves_rest xs ys all.1)

follows_so : (ms said' left : List Msg) → said' ++ left ≡ ms → AreReplies ms → IsPrefixOf (plain said') ms
follows_so ms said' left joined all =
    let mine : AreReplies said' = front_replies said' left (subst AreReplies (sym joined) all) in
    (left, subst (λ (xs : List Msg). Leaves xs ms left) (sym (plain_replies said' mine)) (subst (λ (ns : List Msg). Leaves said' ns left) joined (leaves_rest said' left mine)))

answers_as : (blocks : List Block) → IsGoodChain blocks → (log : Log) (p : ℕ) → Rightly log → AreNumbered log → ((k : ℕ) → HasBegun Honest blocks (drop k log) p) → AnswersAs blocks (trail log p)
answers_as blocks good log p right numbered begun =
    let a = agrees log p right numbered (all_fine blocks good log p right begun) in
    let ms : List Msg = all_answers blocks (told_to log p) in
    let all = answers_good blocks good log p right in
    let b = says_first ms log p (sendable_of ms all) (begun 0) a in
    record {
      spelled = a.spells;
      follows = subst (λ (told : List Msg). IsPrefixOf (plain (messages_said (trail log p))) (all_answers blocks told)) (sym a.asks_these)
          (subst (λ (xs : List Msg). IsPrefixOf (plain xs) ms) (sym b.says) (follows_so ms b.first b.left b.joined all));
    }

-- ---- with all answered nothing is open

leaves_one : (xs owed : List Msg) → Leaves xs xs owed → owed ≡ []
leaves_one [] owed h = sym h
leaves_one (m ∷ xs) owed h = leaves_one xs owed h.1

no_filters : (fs : List Filtered) → [] ≡ map cfilter_of fs → fs ≡ []
no_filters [] e = refl
no_filters (f ∷ fs) e = cc

open_filters : (left : List Hash) (came' : List Job) (fs : List Filtered) → left ≡ map (λ (f : Filtered). f.block) fs → fs ≡ [] → IsFilled (FiltersOpen left came') → ⊥
open_filters [] came' fs these none h = h
open_filters (next ∷ left) came' fs these none h = (let e = ap (λ (x : List Filtered). map (λ (f : Filtered). f.block) x) none in cc)

all_done : (blocks : List Block) (cs : Table) (k : ℕ) (r : OpenRequest) (rd mt gr c : Bool) → gr ≡ true → IsFilled r → Owes blocks cs rd mt gr k r [] → (c && (not rd || not (is_idle r))) ≡ false
all_done blocks cs k r rd mt gr false greets full owes = refl
all_done blocks cs k NothingOpen true mt gr true greets full owes = refl
all_done blocks cs k HeadersOpen true mt gr true greets full owes = (let e = owes.1 in cc)
all_done blocks cs k (ClaimsOpen stop parent asked') true mt gr true greets full owes = (let e = owes.1.due in cc)
all_done blocks cs k (FiltersOpen left came') true mt gr true greets full owes = absurd (open_filters left came' owes.1.filters owes.1.these (no_filters owes.1.filters owes.1.due) full)
all_done blocks cs k (BlockOpen block) true mt gr true greets full owes = (let e = owes.1.due in cc)
all_done blocks cs k (PingOpen number) true mt gr true greets full owes = absurd owes.1
all_done blocks cs k r false true gr true greets full owes = (let e = owes.2 in cc)
all_done blocks cs k r false false true true greets full owes = (let e = owes.1 in cc)
all_done blocks cs k r false false false true greets full owes = absurd (false≢true greets)

-- ---- the chain

no_said : (name : List ℕ) (p : ℕ) (m : Msg) → HasSaid (trail (Dialled (record { 0 = 1 }) name ∷ []) p) m → ⊥
no_said name p m = at_either (λ part. HasSaid part.trail m → ⊥) (1 == p) (called_part (part_of [] p)) (part_of [] p) (λ is h. h) (λ off h. h)

abbrev first_log : Log
first_log = Dialled (record { 0 = 1 }) [] ∷ []

pub within_limit : (blocks : List Block) → IsGoodChain blocks → IsWithinLimit (headers_of blocks)
within_limit blocks good = omega (arith, headers_length blocks, good.height)

pub chain_setting : (log : Log) (blocks : List Block) → NoHashClash (IsHashed log blocks) → IsGoodChain blocks → Setting blocks
chain_setting log blocks clash good = setting_of first_log 1 blocks less (record {
  good = good;
  low = within_limit blocks good;
  dialled = refl;
  honest = (record { spelled = tt; follows = ([], refl) }, tt, tt, tt);
}) where
  fewer : (bytes : List ℕ) → IsHashed first_log blocks bytes → IsHashed log blocks bytes
  fewer bytes (inl e) = inl e
  fewer bytes (inr (inl r)) = absurd (no_said [] r.0 r.1.0 r.1.1)
  fewer bytes (inr (inr c)) = inr (inr c)

  less : NoHashClash (IsHashed first_log blocks)
  less = record { apart = λ a b i j e. clash.apart a b (fewer a i) (fewer b j) e; real = λ a i e. clash.real a (fewer a i) e }

-- ---- the whole log

-- nothing is open to it where it has answered all
quiet : (blocks : List Block) → Setting blocks → IsGoodChain blocks → (log : Log) (p : ℕ) → NeverOmits blocks log p → Rightly log → AreNumbered log → ((k : ℕ) → HasBegun Honest blocks (drop k log) p)
    → IsHonestOver log p blocks → IsGreetedWhere (trail log p) → HasAnswered Honest blocks log p → is_open (trail log p) ≡ false
quiet blocks s good log p never right numbered begun honest greets whole = elim (cases_Bool (is_connected (trail log p))) [
  | inl on ↦ (
      let t : Trail = trail log p in
      let a = agrees log p right numbered (all_fine blocks good log p right begun) in
      let ms : List Msg = all_answers blocks (told_to log p) in
      let all = answers_good blocks good log p right in
      let says : messages_said t ≡ ms = a.says ∙ whole_words ms (came log p) (sendable_of ms all) whole in
      let theirs : answers blocks t ≡ ms = ap (all_answers blocks) a.asks_these in
      let k = (honest_good blocks s log p never right honest).keeps in
      let left : Leaves ms ms k.owed =
      subst (λ (ns : List Msg). Leaves ms ns k.owed) theirs
      (subst (λ (xs : List Msg). Leaves xs (answers blocks t) k.owed) (ap plain says ∙ plain_replies ms all) k.leaves) in
      let none : k.owed ≡ [] = leaves_one ms k.owed left in
      all_done blocks (claims t) k.serves.stays.height (request t) (ready t) (has_version t) (is_greeted t) (is_connected t) (greets on) (filled log p right)
      (subst (λ (ns : List Msg). Owes blocks (claims t) (ready t) (has_version t) (is_greeted t) k.serves.stays.height (request t) ns) none k.serves.owes))
  | inr off ↦ ap (λ (c : Bool). c && (not (ready (trail log p)) || not (is_idle (request (trail log p))))) off
]

stays_so : (e : Event) (p : ℕ) → is_staying e ≡ true → Stays e p
stays_so (Dialled q name) p h = tt
stays_so (NotDialled q name) p h = absurd (false≢true h)
stays_so (Sent q bytes) p h = tt
stays_so (SendFailed q) p h = absurd (false≢true h)
stays_so (Closed q) p h = tt
stays_so (Took (Got q piece)) p h = tt
stays_so (Took (Gone q)) p h = absurd (false≢true h)
stays_so (Took (Tick s)) p h = tt
stays_so (Took Ended) p h = absurd (false≢true h)

pub greeted_before : (e : Event) (log : Log) → WereGreeted (e ∷ log) → WereGreeted log
greeted_before (Dialled q name) log g = g
greeted_before (NotDialled q name) log g = g
greeted_before (Sent q bytes) log g = g
greeted_before (SendFailed q) log g = g
greeted_before (Closed q) log g = g
greeted_before (Took d) log g = g.1

-- what is asked of a log, of its earlier moments too
plays_before : (blocks : List Block) (e : Event) (log : Log) (p : ℕ) → PlaysHonest blocks (e ∷ log) p → PlaysHonest blocks log p
plays_before blocks e log p h = record {
  past = λ k. h.past (suc k);
  ticks = λ k s older is. h.ticks (suc k) s older is;
  stays = (and_parts (is_staying e) (list_all is_staying log) h.stays).1;
}

in_time : (blocks : List Block) → Setting blocks → IsGoodChain blocks → (e : Event) (log : Log) (p : ℕ) → NeverOmits blocks log p → Rightly (e ∷ log) → AreNumbered (e ∷ log) → WereGreeted (e ∷ log) → PlaysHonest blocks (e ∷ log) p
    → IsHonestOver log p blocks → InTime e log p
in_time blocks s good (Took (Tick n)) log p never right numbered greets plays honest = λ opened.
    absurd (both_ways (is_open (trail log p))
    (quiet blocks s good log p never right.1 numbered (λ k. plays.past (suc k)) honest (greets.0 p) (plays.ticks 0 n log refl)) opened)
in_time blocks s good (Took (Got q piece)) log p never right numbered greets plays honest = tt
in_time blocks s good (Took (Gone q)) log p never right numbered greets plays honest = tt
in_time blocks s good (Took Ended) log p never right numbered greets plays honest = tt
in_time blocks s good (Dialled q name) log p never right numbered greets plays honest = tt
in_time blocks s good (NotDialled q name) log p never right numbered greets plays honest = tt
in_time blocks s good (Sent q bytes) log p never right numbered greets plays honest = tt
in_time blocks s good (SendFailed q) log p never right numbered greets plays honest = tt
in_time blocks s good (Closed q) log p never right numbered greets plays honest = tt

pub honest_over : (blocks : List Block) → Setting blocks → IsGoodChain blocks → (log : Log) (p : ℕ) → NeverOmits blocks log p → Rightly log → AreNumbered log → WereGreeted log → PlaysHonest blocks log p → IsHonestOver log p blocks
honest_over blocks s good [] p never right numbered greets plays = tt
honest_over blocks s good (e ∷ log) p never right numbered greets plays =
    let before = honest_over blocks s good log p never.1 (rightly_before e log right) (numbered_before e log numbered) (greeted_before e log greets) (plays_before blocks e log p plays) in (
      answers_as blocks good (e ∷ log) p right numbered plays.past,
      in_time blocks s good e log p never.1 right numbered greets plays before,
      stays_so e p (and_parts (is_staying e) (list_all is_staying log) plays.stays).0,
      before,
    )

-- ---- whom was dialled

abbrev IsCalled : Part → Type 0
IsCalled part = was_called part.trail ≡ true

called_item : (r : Result Msg Malformed) (t : Trail) → was_called (item_of_read r ∷ t) ≡ was_called t
called_item (Ok m) t = refl
called_item (Err e) t = refl

called_hears : (fs : List Frame) (t : Trail) → was_called (hears fs t) ≡ was_called t
called_hears [] t = refl
called_hears (f ∷ fs) t = called_hears fs (item_of f ∷ t) ∙ called_item (message_of f) t

called_fault : (o : Option FrameFault) (t : Trail) → was_called (hears_fault o t) ≡ was_called t
called_fault None t = refl
called_fault (Some fault) t = refl

called_read : (r : StreamRead) (t : Trail) → was_called (part_after r t).trail ≡ was_called t
called_read r t = called_fault r.fault (hears r.frames t) ∙ called_hears r.frames t

called_asks : (o : Option Msg) (t : Trail) → was_called (asks o t) ≡ was_called t
called_asks None t = refl
called_asks (Some m) t = refl

-- each number up to the count of the dials is that of a peer that was dialled
pub called : (log : Log) (p : ℕ) → AreNumbered log → list_all is_staying log ≡ true → 1 ≤ p → p ≤ (tally_of log).dials → was_called (trail log p) ≡ true
called [] p numbered stays some few = absurd (omega (arith, some, few))
called (Dialled q name ∷ log) p numbered stays some few =
    at_either IsCalled (q.0 == p) (called_part (part_of log p)) (part_of log p) (λ is. refl)
    (λ off.
    let n = numbered.0 in
    let apart : q.0 ≢ p = λ e. both_ways (q.0 == p) off (eq-eqb q.0 p e) in
    called log p numbered.1 stays some (omega (arith, few, n, apart)))
called (NotDialled q name ∷ log) p numbered stays some few = absurd (false≢true stays)
called (Sent q bytes ∷ log) p numbered stays some few =
    let before = called log p numbered stays some few in
    at_either IsCalled (q.0 == p) (record (part_of log p) { trail = asks (spelled bytes) (trail log p) }) (part_of log p) (λ is. called_asks (spelled bytes) (trail log p) ∙ before) (λ off. before)
called (SendFailed q ∷ log) p numbered stays some few = absurd (false≢true stays)
called (Closed q ∷ log) p numbered stays some few =
    let before = called log p numbered stays some few in
    at_either IsCalled (q.0 == p) (with_item (Lost mark.Closed) (part_of log p)) (part_of log p) (λ is. before) (λ off. before)
called (Took (Got q piece) ∷ log) p numbered stays some few =
    let before = called log p numbered stays some few in
    at_either IsCalled (q.0 == p) (heard_part piece (part_of log p)) (part_of log p) (λ is. called_read (read_stream ((part_of log p).waits ++ piece)) (trail log p) ∙ before) (λ off. before)
called (Took (Gone q) ∷ log) p numbered stays some few = absurd (false≢true stays)
called (Took (Tick s) ∷ log) p numbered stays some few = called log p numbered stays some few
called (Took Ended ∷ log) p numbered stays some few = absurd (false≢true stays)

-- ---- the law

pub honest_peer : (log : Log) (p : ℕ) (blocks : List Block) → AreBytes log → IsGoodChain blocks → NoHashClash (IsHashed log blocks) → Rightly log → AreNumbered log → WereGreeted log
    → 1 ≤ p → p ≤ (tally_of log).dials → PlaysHonest blocks log p → IsHonest log p blocks
honest_peer log p blocks bytes good clash right numbered greets some few plays = record {
  good = good;
  low = within_limit blocks good;
  dialled = called log p numbered plays.stays some few;
  honest = honest_over blocks (chain_setting log blocks clash good) good log p (never_omits log p blocks bytes clash good.each) right numbered greets plays;
}

pub run_honest : (log : Log) (p : ℕ) (blocks : List Block) → IsRun log → IsGoodChain blocks → NoHashClash (IsHashed log blocks) → 1 ≤ p → p ≤ (tally_of log).dials → PlaysHonest blocks log p → IsHonest log p blocks
run_honest log p blocks run good clash some few plays = honest_peer log p blocks run.bytes good clash run.rightly run.numbered (were_greeted log run.orderly) some few plays
