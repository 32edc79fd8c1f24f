-- The replies of a good chain's machine to what a client may ask: each has a frame, and is an answer.
use Rattle.std.proofs.Common.{◌≡◌, ◌==◌, ℕ, zero, suc, pos, ◌+◌, ◌-◌, ◌<◌, ◌≤◌, List, [], ◌∷◌, length, map, take, drop, Option, Some, None, Bool, true, false, if◌then◌else◌, refl, ◌∙◌, ap, arith, lit<, lit≤, slice_get, length-take}
use Rattle.std.specs.Prelude.{nat_lt, nat_le, min, option_to_list, ◌&&◌, ◌||◌}
use Rattle.std.specs.List.{AllByRecursion}
use Rattle.std.specs.FinMap.{empty}
use Rattle.std.proofs.lemmas.Bool.{and_parts, ltb-true, leb-true, false≢true}
use Rattle.std.proofs.lemmas.List.{length-map}
use Rattle.cf_bytes.specs.declared.hash.Hash32.{Hash32}
use Rattle.cf_block.specs.declared.header.Header.{Header}
use Rattle.cf_block.specs.declared.tx.Block.{Block}
use Rattle.cf_block.specs.Header.{IsHash, IsHeader}
use Rattle.cf_block.specs.Tx.{IsBlock}
use Rattle.cf_filter.specs.Filter.{filter_hash_of}
use Rattle.cf_chain.specs.Coins.{CoinMap, after_block}
use Rattle.cf_chain.specs.Good.{IsGoodChain, AreGoodBlocks}
use Rattle.cf_chain.specs.Heights.{all_blocks, block_height}
use Rattle.cf_chain.specs.Filters.{Filtered, first_filtered, filters_of}
use Rattle.cf_chain.specs.Serve.{fork_height, most_headers, next_headers, block_in, block_with, headers_reply, data_reply, within, range_end, filters_between, cfilter_of, cfilters_reply, header_before, cfheaders_reply, reply_to, replies_to, replies, version_reply}
use Rattle.cf_msg.specs.declared.msg.Inventory.{Inventory}
use Rattle.cf_msg.specs.declared.msg.Msg.{Msg}
use Rattle.cf_msg.specs.declared.msg.Msg.TheVariants.{Version, Verack, Ping, GetHeaders, Headers, GetData, Block as BlockMessage, GetCfilters, GetCfheaders, Cfheaders, GetCfcheckpt}
use Rattle.cf_msg.specs.Message.{is_version}
use Rattle.cf_peer.specs.Acts.{IsSendable}
use Rattle.cf_peer.specs.Asking.{MayAsk}
use Rattle.cf_peer.specs.Trail.{Trail}
use Rattle.cf_played.proofs.Written.{written, version_fits, all_places, cfilter_fits}
use Rattle.cf_server.proofs.Fitting.{IsFit, before_fits, block_fits, filter_fits, hash_fits, hashes_fit}
use Rattle.cf_server.proofs.Lists.{all-take, all-drop, all-append, all-map, all-flat_map}
use Rattle.cf_sync.specs.Honesty.{is_chatter, IsAnswer}

-- a reply: it can be written, is no chatter, and answers for itself
pub record IsReply (m : Msg) : Type 0 where
  pub sendable : IsSendable m
  pub counts : is_chatter m ≡ false
  pub itself : IsAnswer m m

abbrev pub AreReplies : List Msg → Type 0
AreReplies ms = AllByRecursion IsReply ms

-- a question that a client may ask: no ping, and none for checkpoints
abbrev pub is_question : Msg → Bool
is_question (Ping n) = false
is_question (GetCfcheckpt filter stop) = false
is_question m = true

abbrev pub IsQuestion : Msg → Type 0
IsQuestion m = is_question m ≡ true

pub may_question : (t : Trail) (m : Msg) → MayAsk t m → IsQuestion m
may_question t (Ping n) h = absurd h
may_question t (GetCfcheckpt filter stop) h = absurd h
may_question t m h = refl

-- ---- each kind

version_replies : (blocks : List Block) → IsGoodChain blocks → IsReply (version_reply (pos 0) 0 blocks)
version_replies blocks good = record {
  sendable = version_fits blocks good;
  counts = refl;
  itself = (refl, refl);
}

verack_replies : IsReply Verack
verack_replies = record { sendable = written Verack tt tt; counts = refl; itself = refl }

headers_replies : (hs : List Header) → length hs ≤ 2000 → AllByRecursion IsHeader hs → IsReply (Headers hs)
headers_replies hs few each = record { sendable = written (Headers hs) (few, each) tt; counts = refl; itself = refl }

block_replies : (b : Block) → IsBlock b → IsReply (BlockMessage b)
block_replies b is = record { sendable = written (BlockMessage b) is tt; counts = refl; itself = refl }

cfilter_replies : (f : Filtered) → IsFit f → IsReply (cfilter_of f)
cfilter_replies f fit = record { sendable = cfilter_fits f fit; counts = refl; itself = refl }

cfheaders_replies : (stop previous : Hash32) (hashes : List Hash32) → IsHash stop → IsHash previous → length hashes ≤ 2000 → AllByRecursion IsHash hashes → IsReply (Cfheaders 0 stop previous hashes)
cfheaders_replies stop previous hashes a b few each = record { sendable = written (Cfheaders 0 stop previous hashes) (lit< tt, a, b, few, each) tt; counts = refl; itself = refl }

-- ---- what stands in a good chain

each_good : (coins : CoinMap) (blocks : List Block) → AreGoodBlocks coins blocks → AllByRecursion IsBlock blocks
each_good coins [] good = tt
each_good coins (b ∷ bs) good = (good.0.spelled, each_good (after_block coins b) bs good.1)

heads_good : (blocks : List Block) → IsGoodChain blocks → AllByRecursion IsHeader (map (λ b. b.header) blocks)
heads_good blocks good = all-map IsBlock IsHeader (λ b. b.header) blocks (λ b fits. fits.header) (each_good empty blocks good.each)

blocks_good : (blocks : List Block) → IsGoodChain blocks → AllByRecursion IsBlock (all_blocks blocks)
blocks_good blocks good = (block_fits blocks 0 good, each_good empty blocks good.each)

filters_good : (blocks : List Block) → IsGoodChain blocks → AllByRecursion IsFit (filters_of blocks)
filters_good blocks good = all_places IsFit (filters_of blocks) first_filtered (λ i. filter_fits blocks i good)

got_good : {X : Type 0} (P : X → Type 0) (xs : List X) (i : ℕ) → AllByRecursion P xs → AllByRecursion P (option_to_list (slice_get xs i))
got_good P [] i all = tt
got_good P (x ∷ xs) zero all = (all.0, tt)
got_good P (x ∷ xs) (suc i) all = got_good P xs i all.1

in_good : (blocks : List Block) (o : Option ℕ) → IsGoodChain blocks → AllByRecursion IsBlock (block_in blocks o)
in_good blocks None good = tt
in_good blocks (Some height) good = got_good IsBlock (all_blocks blocks) height (blocks_good blocks good)

-- ---- each question

most_few : (fork : ℕ) (o : Option ℕ) → most_headers fork o ≤ 2000
most_few fork None = lit≤ tt
most_few fork (Some stop) = by_test (nat_lt fork stop) where
  by_test : (b : Bool) → (if b then min 2000 (stop - fork) else 2000) ≤ 2000
  by_test true = omega arith
  by_test false = lit≤ tt

taken_few : {X : Type 0} (n : ℕ) (xs : List X) → n ≤ 2000 → length (take n xs) ≤ 2000
taken_few n xs few = omega (arith, length-take n xs, few)

headers_good : (blocks : List Block) → IsGoodChain blocks → (locator : List Hash32) (stop : Hash32) → AreReplies (headers_reply locator stop blocks)
headers_good blocks good [] stop =
    all-map IsBlock IsReply (λ b. Headers (b.header ∷ [])) (block_with stop blocks) (λ b is. headers_replies (b.header ∷ []) (lit≤ tt) (is.header, tt)) (in_good blocks (block_height stop blocks) good)
headers_good blocks good (hash ∷ more) stop =
    let fork : ℕ = fork_height (hash ∷ more) blocks in
    let most : ℕ = most_headers fork (block_height stop blocks) in (
      headers_replies (next_headers (hash ∷ more) stop blocks)
          (taken_few most (drop fork (map (λ (b : Block). b.header) blocks)) (most_few fork (block_height stop blocks)))
          (all-take IsHeader (drop fork (map (λ (b : Block). b.header) blocks)) most (all-drop IsHeader (map (λ (b : Block). b.header) blocks) fork (heads_good blocks good))),
      tt,
    )

data_good : (blocks : List Block) → IsGoodChain blocks → (entry : Inventory) → AreReplies (data_reply blocks entry)
data_good blocks good entry = by_kind (entry.kind == 2) where
  by_kind : (b : Bool) → AreReplies (if b then map (λ (x : Block). BlockMessage x) (block_with entry.hash blocks) else [])
  by_kind true = all-map IsBlock IsReply (λ x. BlockMessage x) (block_with entry.hash blocks) (λ x is. block_replies x is) (in_good blocks (block_height entry.hash blocks) good)
  by_kind false = tt

between_good : (blocks : List Block) → IsGoodChain blocks → (start stop : ℕ) → AllByRecursion IsFit (filters_between start stop blocks)
between_good blocks good start stop = all-take IsFit (drop start (filters_of blocks)) (suc stop - start) (all-drop IsFit (filters_of blocks) start (filters_good blocks good))

cfilters_good : (blocks : List Block) → IsGoodChain blocks → (start : ℕ) (o : Option ℕ) → AreReplies (cfilters_reply start o blocks)
cfilters_good blocks good start None = tt
cfilters_good blocks good start (Some stop) = all-map IsFit IsReply cfilter_of (filters_between start stop blocks) cfilter_replies (between_good blocks good start stop)

-- a range that is answered ends at its stop's height, and is short
record Ends (limit start stop_height : ℕ) (stop : Hash32) (blocks : List Block) : Type 0 where
  there : block_height stop blocks ≡ Some stop_height
  few : stop_height < start + limit

within_ends : (limit start : ℕ) (stop : Hash32) (blocks : List Block) (o : Option ℕ) (height : ℕ) → block_height stop blocks ≡ o → within limit start o ≡ Some height → Ends limit start height stop blocks
within_ends limit start stop blocks None height e is = cc
within_ends limit start stop blocks (Some h) height e is = by_test (nat_le start h && nat_lt (h - start) limit) refl is where
  by_test : (b : Bool) → (nat_le start h && nat_lt (h - start) limit) ≡ b → (if b then Some h else None) ≡ Some height → Ends limit start height stop blocks
  by_test true t is =
      let same : h ≡ height = cc in
      let parts = and_parts (nat_le start h) (nat_lt (h - start) limit) t in
      let low = leb-true start h parts.0 in
      let few = ltb-true (h - start) limit parts.1 in
      record { there = e ∙ ap (λ (n : ℕ). Some n) same; few = omega (arith, same, low, few) }
  by_test false t is = cc

range_ends : (limit filter start : ℕ) (stop : Hash32) (blocks : List Block) (height : ℕ) → range_end limit filter start stop blocks ≡ Some height → Ends limit start height stop blocks
range_ends limit filter start stop blocks height is = by_test (filter == 0) is where
  by_test : (b : Bool) → (if b then within limit start (block_height stop blocks) else None) ≡ Some height → Ends limit start height stop blocks
  by_test true is = within_ends limit start stop blocks (block_height stop blocks) height refl is
  by_test false is = cc

-- the hashes of filters
abbrev hashes : List Filtered → List Hash32
hashes fs = map (λ (f : Filtered). record { 0 = filter_hash_of f.filter }) fs

cfheaders_good : (blocks : List Block) → IsGoodChain blocks → (start : ℕ) (stop : Hash32) (o : Option ℕ) → ((height : ℕ) → o ≡ Some height → Ends 2000 start height stop blocks) → AreReplies (cfheaders_reply start o stop blocks)
cfheaders_good blocks good start stop None ends = tt
cfheaders_good blocks good start stop (Some height) ends =
    let e = ends height refl in
    let fs : List Filtered = filters_between start height blocks in
    let few = e.few in
    let long = length-take (suc height - start) (drop start (filters_of blocks)) in
    let hash_in : Filtered → Hash32 = λ f. record { 0 = filter_hash_of f.filter } in
    let many : length (hashes fs) ≡ length fs = length-map fs hash_in in (
      cfheaders_replies stop (header_before start blocks) (hashes fs)
          (hash_fits stop blocks height e.there) (before_fits blocks start good) (omega (arith, many, long, few)) (hashes_fit fs),
      tt,
    )

reply_good : (blocks : List Block) → IsGoodChain blocks → (m : Msg) → IsQuestion m → AreReplies (reply_to blocks m)
reply_good blocks good (Ping n) q = absurd (false≢true q)
reply_good blocks good (GetHeaders version locator stop) q = headers_good blocks good locator stop
reply_good blocks good (GetData entries) q = all-flat_map IsReply (data_reply blocks) entries (data_good blocks good)
reply_good blocks good (GetCfilters filter start stop) q = cfilters_good blocks good start (range_end 1000 filter start stop blocks)
reply_good blocks good (GetCfheaders filter start stop) q =
    cfheaders_good blocks good start stop (range_end 2000 filter start stop blocks) (λ height is. range_ends 2000 filter start stop blocks height is)
reply_good blocks good (GetCfcheckpt filter stop) q = absurd (false≢true q)
reply_good blocks good m q = tt

replies_to_good : (blocks : List Block) → IsGoodChain blocks → (seen : Bool) (m : Msg) → IsQuestion m → AreReplies (replies_to (pos 0) 0 blocks seen m)
replies_to_good blocks good true m q = reply_good blocks good m q
replies_to_good blocks good false (Version version services time to from nonce agent height relay) q = (version_replies blocks good, (verack_replies, tt))
replies_to_good blocks good false m q = tt

pub replies_good : (blocks : List Block) → IsGoodChain blocks → (seen : Bool) (ms : List Msg) → AllByRecursion IsQuestion ms → AreReplies (replies (pos 0) 0 blocks seen ms)
replies_good blocks good seen [] all = tt
replies_good blocks good seen (m ∷ ms) all =
    all-append IsReply (replies_to (pos 0) 0 blocks seen m) (replies (pos 0) 0 blocks (is_version m || seen) ms) (replies_to_good blocks good seen m all.0) (replies_good blocks good (is_version m || seen) ms all.1)

pub sendable_of : (ms : List Msg) → AreReplies ms → AllByRecursion IsSendable ms
sendable_of [] all = tt
sendable_of (m ∷ ms) all = (all.0.sendable, sendable_of ms all.1)
