-- Whatever a played peer shows is a part of its chain.
use Rattle.std.proofs.Common.{◌≡◌, ◌⊎◌, inl, inr, ◌==◌, ℕ, zero, suc, pos, ◌<◌, ◌≤◌, List, [], ◌∷◌, ◌++◌, length, map, take, drop, get_or, Option, Some, None, Result, Ok, Err, Bool, true, false, if◌then◌else◌, refl, sym, ◌∙◌, ap, subst, arith}
use Rattle.std.specs.Prelude.{option_to_list, ◌||◌}
use Rattle.std.specs.List.{AllByRecursion}
use Rattle.std.proofs.lemmas.Bool.{false≢true}
use Rattle.cf_bytes.specs.declared.hash.Hash32.{Hash32}
use Rattle.cf_block.specs.declared.header.Header.{Header}
use Rattle.cf_block.specs.declared.tx.Block.{Block}
use Rattle.cf_block.specs.Header.{block_hash_of}
use Rattle.cf_block.specs.Genesis.{first_block}
use Rattle.cf_chain.specs.Good.{IsGoodChain, headers_of}
use Rattle.cf_chain.specs.Heights.{block_height}
use Rattle.cf_chain.specs.Serve.{fork_height, most_headers, block_with, data_reply, range_end, cfilter_of, filters_between, cfilters_reply, cfheaders_reply, cfcheckpt_reply, reply_to, replies_to, replies}
use Rattle.cf_frame.specs.declared.frame.Frame.{Frame}
use Rattle.cf_frame.specs.declared.frame.FrameFault.{FrameFault}
use Rattle.cf_frame.specs.Stream.{StreamRead, read_stream}
use Rattle.cf_sync.specs.Sync.{IsHashed}
use Rattle.cf_headers.specs.Chain.{NoHashClash, IsPart, Chain, tip_hash, IsValidChain, IsIn}
use Rattle.cf_headers.specs.Shown.{Shows}
use Rattle.cf_headers.proofs.Longest.{same_chain}
use Rattle.cf_msg.specs.declared.msg.Inventory.{Inventory}
use Rattle.cf_msg.specs.declared.msg.Malformed.{Malformed}
use Rattle.cf_msg.specs.declared.msg.Msg.{Msg}
use Rattle.cf_msg.specs.declared.msg.Msg.TheVariants.{Version, Ping, GetHeaders, Headers, GetData, Block as BlockMessage, GetCfilters, GetCfheaders, GetCfcheckpt}
use Rattle.cf_msg.specs.Reading.{message_of}
use Rattle.cf_msg.specs.Message.{is_version}
use Rattle.cf_wires.specs.declared.event.Delivery.TheVariants.{Got, Gone, Tick, Ended}
use Rattle.cf_wires.specs.declared.event.Event.TheVariants.{Dialled, NotDialled, Sent, SendFailed, Closed, Took}
use Rattle.cf_wires.specs.declared.event.Mark.TheVariants as mark
use Rattle.cf_wires.specs.Log.{Log}
use Rattle.cf_peer.specs.Trail.{Trail, Part, Lost, called_part, with_item, item_of, item_of_read, hears, hears_fault, part_after, heard_part, spelled, asks, part_of, trail, own}
use Rattle.cf_peer.specs.Asking.{lists, HasSaid, MayAsk}
use Rattle.cf_played.specs.declared.kind.Way.{Way}
use Rattle.cf_played.specs.declared.kind.Way.TheVariants.{Honest, Omits, Silent}
use Rattle.cf_played.specs.Answers.{told_to, heard_of, IsAlike, AreAlike, HasBegunAlike}
use Rattle.cf_run.specs.Run.{AreNumbered}
use Rattle.cf_server.proofs.Lists.{all-append, all-flat_map}
use Rattle.cf_sync.specs.Fetching.{Rightly, counted_part}
use Rattle.cf_sync.specs.Honesty.{messages_said}
use Rattle.cf_sync.proofs.Chains.{heads, up_to, up_part, up_more, up_valid, in_heads, Setting, first_located}
use Rattle.cf_sync.proofs.Counted.{counted_said, shown_said}
use Rattle.cf_sync.proofs.Entries.{at_either}
use Rattle.cf_sync.proofs.Listed.{in_right}
use Rattle.cf_demo.specs.Playing.{IsRun, PlaysAlike}
use Rattle.cf_demo.proofs.Beginnings.{word_of, words}
use Rattle.cf_demo.proofs.Parts.{IsFine, agrees, said_hears}
use Rattle.cf_sync.proofs.HonestLemmas.{rightly_before}
use Rattle.cf_demo.proofs.Played.{numbered_before, fine_of, says_first, chain_setting}

-- ---- all that a peer has said

all_in : (P : Msg → Type 0) (ms : List Msg) (m : Msg) → AllByRecursion P ms → IsIn m ms → P m
all_in P [] m all i = absurd i
all_in P (n ∷ ms) m all (inl e) = subst P (sym e) all.0
all_in P (n ∷ ms) m all (inr i) = all_in P ms m all.1 i

said_item : (r : Result Msg Malformed) (t : Trail) (m : Msg) → HasSaid (item_of_read r ∷ t) m → HasSaid t m ⊎ IsIn m (word_of r)
said_item (Ok n) t m (inl e) = inr (inl e)
said_item (Ok n) t m (inr h) = inl h
said_item (Err e) t m h = inl h

in_left' : (m : Msg) (xs ys : List Msg) → IsIn m xs → IsIn m (xs ++ ys)
in_left' m [] ys i = absurd i
in_left' m (x ∷ xs) ys (inl e) = inl e
in_left' m (x ∷ xs) ys (inr i) = inr (in_left' m xs ys i)

said_among : (fs : List Frame) (t : Trail) (m : Msg) → HasSaid (hears fs t) m → HasSaid t m ⊎ IsIn m (words fs)
said_among [] t m h = inl h
said_among (f ∷ fs) t m h = elim (said_among fs (item_of f ∷ t) m h) [
  | inl before ↦ elim (said_item (message_of f) t m before) [
    | inl old ↦ inl old
    | inr here ↦ inr (in_left' m (word_of (message_of f)) (words fs) here)
  ]
  | inr later ↦ inr (in_right m (word_of (message_of f)) (words fs) later)
]

fault_told : (o : Option FrameFault) (t : Trail) (m : Msg) → HasSaid (hears_fault o t) m → HasSaid t m
fault_told None t m h = h
fault_told (Some fault) t m h = h

fault_says : (o : Option FrameFault) (t : Trail) → messages_said (hears_fault o t) ≡ messages_said t
fault_says None t = refl
fault_says (Some fault) t = refl

read_all : (P : Msg → Type 0) (r : StreamRead) (t : Trail) → AllByRecursion P (messages_said (part_after r t).trail) → ((m : Msg) → HasSaid t m → P m) → (m : Msg) → HasSaid (part_after r t).trail m → P m
read_all P r t all before m h =
    let e : messages_said (part_after r t).trail ≡ messages_said t ++ words r.frames = fault_says r.fault (hears r.frames t) ∙ said_hears r.frames t in
    elim (said_among r.frames t m (fault_told r.fault (hears r.frames t) m h)) [
      | inl old ↦ before m old
      | inr new ↦ all_in P (messages_said t ++ words r.frames) m (subst (AllByRecursion P) e all) (in_right m (messages_said t) (words r.frames) new)
    ]

asks_told : (o : Option Msg) (t : Trail) (m : Msg) → HasSaid (asks o t) m → HasSaid t m
asks_told None t m h = h
asks_told (Some n) t m h = h

abbrev Tells : (Msg → Type 0) → Part → Type 0
Tells P part = (m : Msg) → HasSaid part.trail m → P m

abbrev TellsWhere : (Msg → Type 0) → Part → Type 0
TellsWhere P part = AllByRecursion P (messages_said part.trail) → Tells P part

-- what holds at every moment of all that it said since it was dialled holds of all that it has ever said
pub told_all : (P : Msg → Type 0) (log : Log) (p : ℕ) → ((k : ℕ) → AllByRecursion P (messages_said (trail (drop k log) p))) → (m : Msg) → HasSaid (trail log p) m → P m
told_all P [] p all = λ m h. absurd h
told_all P (Dialled q name ∷ log) p all =
    let before = told_all P log p (λ k. all (suc k)) in
    at_either (Tells P) (q.0 == p) (called_part (part_of log p)) (part_of log p) (λ is m h. before m h) (λ off. before)
told_all P (NotDialled q name ∷ log) p all =
    let before = told_all P log p (λ k. all (suc k)) in
    at_either (Tells P) (q.0 == p) (with_item (Lost mark.NotDialled) (part_of log p)) (part_of log p) (λ is m h. before m h) (λ off. before)
told_all P (Sent q bytes ∷ log) p all =
    let before = told_all P log p (λ k. all (suc k)) in
    at_either (Tells P) (q.0 == p) (record (part_of log p) { trail = asks (spelled bytes) (trail log p) }) (part_of log p) (λ is m h. before m (asks_told (spelled bytes) (trail log p) m h)) (λ off. before)
told_all P (SendFailed q ∷ log) p all =
    let before = told_all P log p (λ k. all (suc k)) in
    at_either (Tells P) (q.0 == p) (with_item (Lost mark.SendFailed) (part_of log p)) (part_of log p) (λ is m h. before m h) (λ off. before)
told_all P (Closed q ∷ log) p all =
    let before = told_all P log p (λ k. all (suc k)) in
    at_either (Tells P) (q.0 == p) (with_item (Lost mark.Closed) (part_of log p)) (part_of log p) (λ is m h. before m h) (λ off. before)
told_all P (Took (Got q piece) ∷ log) p all =
    let before = told_all P log p (λ k. all (suc k)) in
    at_either (TellsWhere P) (q.0 == p) (heard_part piece (part_of log p)) (part_of log p)
    (λ is here. read_all P (read_stream ((part_of log p).waits ++ piece)) (trail log p) here before) (λ off here. before)
    (all 0)
told_all P (Took (Gone q) ∷ log) p all =
    let before = told_all P log p (λ k. all (suc k)) in
    at_either (Tells P) (q.0 == p) (with_item (Lost mark.Gone) (part_of log p)) (part_of log p) (λ is m h. before m h) (λ off. before)
told_all P (Took (Tick s) ∷ log) p all = λ m h. told_all P log p (λ k. all (suc k)) m h
told_all P (Took Ended ∷ log) p all = told_all P log p (λ k. all (suc k))

-- ---- the machine's headers are its chain's

abbrev pub IsOurs : List Block → Msg → Type 0
IsOurs blocks (Headers hs) = (h : Header) → IsIn h hs → IsIn h (heads blocks)
IsOurs blocks m = Unit {0}

abbrev pub AreOurs : List Block → List Msg → Type 0
AreOurs blocks ms = AllByRecursion (IsOurs blocks) ms

-- a question for headers names a hash that is known
abbrev pub IsLocated : Msg → Type 0
IsLocated (GetHeaders version [] stop) = ⊥
IsLocated (GetHeaders version (hash ∷ more) stop) = Unit {0}
IsLocated m = Unit {0}

in_take : (h : Header) (n : ℕ) (hs : List Header) → IsIn h (take n hs) → IsIn h hs
in_take h zero hs i = absurd i
in_take h (suc n) [] i = absurd i
in_take h (suc n) (x ∷ hs) (inl e) = inl e
in_take h (suc n) (x ∷ hs) (inr i) = inr (in_take h n hs i)

in_drop : (h : Header) (n : ℕ) (hs : List Header) → IsIn h (drop n hs) → IsIn h hs
in_drop h zero hs i = i
in_drop h (suc n) [] i = absurd i
in_drop h (suc n) (x ∷ hs) i = inr (in_drop h n hs i)

all_mapped : {X : Type 0} (P : Msg → Type 0) (f : X → Msg) (xs : List X) → ((x : X) → P (f x)) → AllByRecursion P (map f xs)
all_mapped P f [] each = tt
all_mapped P f (x ∷ xs) each = (each x, all_mapped P f xs each)

data_ours : (blocks : List Block) (entry : Inventory) → AreOurs blocks (data_reply blocks entry)
data_ours blocks entry = by_kind (entry.kind == 2) where
  by_kind : (b : Bool) → AreOurs blocks (if b then map (λ (x : Block). BlockMessage x) (block_with entry.hash blocks) else [])
  by_kind true = all_mapped (IsOurs blocks) (λ (x : Block). BlockMessage x) (block_with entry.hash blocks) (λ x. tt)
  by_kind false = tt

cfilters_ours : (blocks : List Block) (start : ℕ) (o : Option ℕ) → AreOurs blocks (cfilters_reply start o blocks)
cfilters_ours blocks start None = tt
cfilters_ours blocks start (Some stop) = all_mapped (IsOurs blocks) cfilter_of (filters_between start stop blocks) (λ f. tt)

cfheaders_ours : (blocks : List Block) (start : ℕ) (o : Option ℕ) (stop : Hash32) → AreOurs blocks (cfheaders_reply start o stop blocks)
cfheaders_ours blocks start None stop = tt
cfheaders_ours blocks start (Some stop_height) stop = (tt, tt)

checkpoints_ours : (blocks : List Block) (o : Option ℕ) (stop : Hash32) → AreOurs blocks (cfcheckpt_reply o stop blocks)
checkpoints_ours blocks None stop = tt
checkpoints_ours blocks (Some stop_height) stop = (tt, tt)

reply_ours : (blocks : List Block) (m : Msg) → IsLocated m → AreOurs blocks (reply_to blocks m)
reply_ours blocks (Ping n) l = (tt, tt)
reply_ours blocks (GetHeaders version [] stop) l = absurd l
reply_ours blocks (GetHeaders version (hash ∷ more) stop) l =
    let fork : ℕ = fork_height (hash ∷ more) blocks in
    ((λ h i. in_drop h fork (heads blocks) (in_take h (most_headers fork (block_height stop blocks)) (drop fork (heads blocks)) i)), tt)
reply_ours blocks (GetData entries) l = all-flat_map (IsOurs blocks) (data_reply blocks) entries (data_ours blocks)
reply_ours blocks (GetCfilters filter start stop) l = cfilters_ours blocks start (range_end 1000 filter start stop blocks)
reply_ours blocks (GetCfheaders filter start stop) l = cfheaders_ours blocks start (range_end 2000 filter start stop blocks) stop
reply_ours blocks (GetCfcheckpt filter stop) l = checkpoints_ours blocks (if filter == 0 then block_height stop blocks else None) stop
reply_ours blocks m l = tt

to_ours : (blocks : List Block) (seen : Bool) (m : Msg) → IsLocated m → AreOurs blocks (replies_to (pos 0) 0 blocks seen m)
to_ours blocks true m l = reply_ours blocks m l
to_ours blocks false (Version version services time to from nonce agent height relay) l = (tt, (tt, tt))
to_ours blocks false m l = tt

replies_ours : (blocks : List Block) (seen : Bool) (ms : List Msg) → AllByRecursion IsLocated ms → AreOurs blocks (replies (pos 0) 0 blocks seen ms)
replies_ours blocks seen [] all = tt
replies_ours blocks seen (m ∷ ms) all =
    all-append (IsOurs blocks) (replies_to (pos 0) 0 blocks seen m) (replies (pos 0) 0 blocks (is_version m || seen) ms) (to_ours blocks seen m all.0) (replies_ours blocks (is_version m || seen) ms all.1)

alike_ours : (blocks : List Block) (m n : Msg) → IsAlike m n → IsOurs blocks n → IsOurs blocks m
alike_ours blocks m n (inl e) h = subst (IsOurs blocks) (sym e) h
alike_ours blocks (Headers hs) n (inr both) h = absurd (false≢true both.0)
alike_ours blocks m n (inr both) h = tt

are_ours : (blocks : List Block) (ms ns : List Msg) → AreAlike ms ns → AreOurs blocks ns → AreOurs blocks ms
are_ours blocks [] [] alike all = tt
are_ours blocks [] (n ∷ ns) alike all = absurd alike
are_ours blocks (m ∷ ms) [] alike all = absurd alike
are_ours blocks (m ∷ ms) (n ∷ ns) alike all = (alike_ours blocks m n alike.0 all.0, are_ours blocks ms ns alike.1 all.1)

-- ---- what is asked

may_located : (t : Trail) (m : Msg) → MayAsk t m → IsLocated m
may_located t (GetHeaders version [] stop) may = (let w = first_located (own t) in let none : [] ≡ tip_hash (own t) ∷ w.0 = may.3 ∙ w.1 in cc)
may_located t (GetHeaders version (hash ∷ more) stop) may = tt
may_located t m may = tt

located_either : (b : Bool) (xs ys : List Msg) → AllByRecursion IsLocated ys → AllByRecursion IsLocated xs → AllByRecursion IsLocated (if b then xs ++ ys else xs)
located_either true xs ys more all = all-append IsLocated xs ys all more
located_either false xs ys more all = all

located : (log : Log) (p : ℕ) → Rightly log → AllByRecursion IsLocated (told_to log p)
located [] p right = tt
located (Dialled q name ∷ log) p right = located log p right
located (NotDialled q name ∷ log) p right = located log p right
located (Sent q bytes ∷ log) p right =
    located_either (q.0 == p) (told_to log p) (option_to_list (spelled bytes))
    (subst (λ (o : Option Msg). AllByRecursion IsLocated (option_to_list o)) (sym right.0.1) (may_located (trail log q.0) right.0.0 right.0.2.of_its_part, tt))
    (located log p right.1)
located (SendFailed q ∷ log) p right = located log p right
located (Closed q ∷ log) p right = located log p right.1
located (Took d ∷ log) p right = located log p right.1

few_located : (ms : List Msg) → AllByRecursion IsLocated ms → AllByRecursion IsLocated (heard_of Silent ms)
few_located [] all = tt
few_located (Version version services time to from nonce agent height relay ∷ ms) all = (tt, few_located ms all.1)
few_located (GetHeaders version locator stop ∷ ms) all = (all.0, few_located ms all.1)
few_located (m ∷ ms) all = few_located ms all.1

heard_located : (way : Way) (ms : List Msg) → AllByRecursion IsLocated ms → AllByRecursion IsLocated (heard_of way ms)
heard_located Honest ms all = all
heard_located Omits ms all = all
heard_located Silent ms all = few_located ms all

-- ---- what a played peer says

no_replies : (way : Way) (ms : List Msg) → ms ≡ [] → heard_of way ms ≡ []
no_replies Honest ms e = e
no_replies Omits ms e = e
no_replies Silent ms e = ap (heard_of Silent) e

none_alike : (ms ns : List Msg) → AreAlike ms ns → ns ≡ [] → ms ≡ []
none_alike [] ns alike e = refl
none_alike (m ∷ ms) [] alike e = absurd alike
none_alike (m ∷ ms) (n ∷ ns) alike e = cc

alike_fine : (way : Way) (blocks : List Block) (log : Log) (p : ℕ) → HasBegunAlike way blocks log p → IsFine log p
alike_fine way blocks log p h = fine_of h.messages log p h.fit h.begun
    (λ none. none_alike h.messages (replies (pos 0) 0 blocks false (heard_of way (told_to log p))) h.alike (ap (replies (pos 0) 0 blocks false) (no_replies way (told_to log p) none)))

front_ours : (blocks : List Block) (xs ys : List Msg) → AreOurs blocks (xs ++ ys) → AreOurs blocks xs
front_ours blocks [] ys all = tt
front_ours blocks (m ∷ xs) ys all = (all.0, front_ours blocks xs ys all.1)

says_ours : (way : Way) (blocks : List Block) (log : Log) (p : ℕ) → Rightly log → AreNumbered log → PlaysAlike way blocks log p → AreOurs blocks (messages_said (trail log p))
says_ours way blocks log p right numbered h =
    let now = h.past 0 in
    let a = agrees log p right numbered (λ k. alike_fine way blocks (drop k log) p (h.past k)) in
    let b = says_first now.messages log p now.fit now.begun a in
    let theirs : AreOurs blocks (replies (pos 0) 0 blocks false (heard_of way (told_to log p))) = replies_ours blocks false (heard_of way (told_to log p)) (heard_located way (told_to log p) (located log p right)) in
    let mine : AreOurs blocks now.messages = are_ours blocks now.messages (replies (pos 0) 0 blocks false (heard_of way (told_to log p))) now.alike theirs in
    subst (AreOurs blocks) (sym b.says) (front_ours blocks b.first b.left (subst (AreOurs blocks) (sym b.joined) mine))

always_ours : (way : Way) (blocks : List Block) (log : Log) (p : ℕ) → Rightly log → AreNumbered log → PlaysAlike way blocks log p → (k : ℕ) → AreOurs blocks (messages_said (trail (drop k log) p))
always_ours way blocks log p right numbered h zero = says_ours way blocks log p right numbered h
always_ours way blocks [] p right numbered h (suc k) = says_ours way blocks [] p right numbered h
always_ours way blocks (e ∷ log) p right numbered h (suc k) = always_ours way blocks log p (rightly_before e log right) (numbered_before e log numbered) (record { past = λ j. h.past (suc j) }) k

-- ---- a chain of its headers is a part of its chain

record At (blocks : List Block) (h : Header) : Type 0 where
  place : ℕ
  low : place < length blocks
  this : (get_or blocks place first_block).header ≡ h

at_place : (blocks : List Block) (h : Header) → IsIn h (heads blocks) → At blocks h
at_place [] h i = absurd i
at_place (b ∷ blocks) h (inl e) = record { place = 0; low = omega arith; this = sym e }
at_place (b ∷ blocks) h (inr i) = let w = at_place blocks h i in record { place = suc w.place; low = omega (arith, w.low); this = w.this }

pub record IsUpTo (blocks : List Block) (chain : Chain) : Type 0 where
  pub height : ℕ
  pub low : height ≤ length blocks
  pub is : chain ≡ up_to height blocks

pub part_of_ours : (blocks : List Block) → Setting blocks → (chain : Chain) → IsValidChain chain → ((h : Header) → IsIn h chain → IsIn h (heads blocks)) → IsUpTo blocks chain
part_of_ours blocks s [] valid ours = record { height = 0; low = omega arith; is = refl }
part_of_ours blocks s (h ∷ below) valid ours =
    let w = at_place blocks h (ours h (inl refl)) in
    let more = up_more w.place blocks first_block w.low in
    let e : tip_hash (h ∷ below) ≡ tip_hash (up_to (suc w.place) blocks) = ap block_hash_of (sym w.this) ∙ sym (ap tip_hash more) in
    record {
      height = suc w.place;
      low = omega (arith, w.low);
      is = same_chain (heads blocks ∷ []) (h ∷ below) (up_to (suc w.place) blocks) s.apart valid (up_valid (suc w.place) blocks s.valid)
          (λ x i. inl (ours x i)) (λ x i. inl (in_heads (suc w.place) blocks x i)) e;
    }

-- whatever it shows
pub shows_part : (way : Way) (blocks : List Block) → Setting blocks → (log : Log) (p : ℕ) → Rightly log → AreNumbered log → PlaysAlike way blocks log p
    → (other : Chain) → Shows (lists (counted_part log p)) other → IsUpTo blocks other
shows_part way blocks s log p right numbered h other shows =
    part_of_ours blocks s other shows.valid (λ x i.
    let w = shown_said (counted_part log p) x (shows.told x i) in
    let said_it = counted_said (trail log p) (Headers w.0) w.1.0 in
    told_all (IsOurs blocks) log p (always_ours way blocks log p right numbered h) (Headers w.0) said_it x w.1.1)

pub run_shows : (log : Log) (p : ℕ) (way : Way) (blocks : List Block) → IsRun log → IsGoodChain blocks → NoHashClash (IsHashed log blocks) → PlaysAlike way blocks log p
    → (other : Chain) → Shows (lists (counted_part log p)) other → IsPart other (headers_of blocks)
run_shows log p way blocks run good clash plays other shows =
    let u = shows_part way blocks (chain_setting log blocks clash good) log p run.rightly run.numbered plays other shows in
    subst (λ (c : Chain). IsPart c (headers_of blocks)) (sym u.is) (up_part u.height blocks)
