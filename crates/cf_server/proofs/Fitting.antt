-- What the messages of replies have: fields of the right length, and payloads that fit into a frame.
use Rattle.std.proofs.Common.{◌≡◌, ℕ, zero, suc, ◌+◌, ◌-◌, ◌*◌, ◌/◌, ◌<◌, ◌≤◌, true, List, [], ◌∷◌, ◌++◌, length, map, take, drop, replicate, Some, refl, sym, ap, ◌∙◌, subst, arith, lit≤, get_or, slice_get, length-append, length-take}
use Rattle.std.specs.List.{flat_map, AllByRecursion}
use Rattle.std.specs.FinMap.{empty}
use Rattle.std.specs.Prelude.{option_map}
use Rattle.std.proofs.lemmas.List.{length-map}
use Rattle.std.proofs.lemmas.List.Quantifiers.{position-Some}
use Rattle.std.proofs.lemmas.Slice.Eq.{bytes_eq-Decides}
use Rattle.cf_headers.specs.Rules.{same}
use Rattle.std.proofs.lemmas.Option.{slice_get-get_or, get_or_from_slice_get}
use Rattle.cf_bytes.specs.declared.hash.Hash32.{Hash32}
use Rattle.cf_bytes.specs.Compact.{compact}
use Rattle.cf_block.specs.declared.header.Header.{Header}
use Rattle.cf_block.specs.declared.tx.Block.{Block}
use Rattle.cf_block.specs.Output.{Output}
use Rattle.cf_block.specs.Header.{IsHash, IsHeader, block_hash_of, header_spelling}
use Rattle.cf_block.specs.Tx.{IsBlock, block_spelling, tx_spelling}
use Rattle.cf_block.specs.Genesis.{first_block}
use Rattle.cf_block.proofs.GenesisLaws.{block_is}
use Rattle.cf_block.proofs.HeaderLaws.{block_hash_length}
use Rattle.cf_block.proofs.Roots.{length-hash_of}
use Rattle.cf_msg.specs.declared.msg.Msg.TheVariants.{Headers, Cfilter, Cfheaders, Cfcheckpt}
use Rattle.cf_msg.specs.Message.{payload_of}
use Rattle.cf_msg.proofs.Sizes.{headers_size, cfilter_size, cfheaders_size, cfcheckpt_size}
use Rattle.cf_filter.specs.Items.{items_of, paid_scripts}
use Rattle.cf_filter.specs.Filter.{basic_filter_of, filter_hash_of, filter_header_of}
use Rattle.cf_filter.proofs.Among.{items_few}
use Rattle.cf_chain.specs.Coins.{CoinMap, spent_by, after_block}
use Rattle.cf_chain.specs.Filters.{Filtered, filtered, prevouts, first_filtered, filtered_on, filters_of, filter_at}
use Rattle.cf_chain.specs.Good.{IsGoodChain, AreGoodBlocks}
use Rattle.cf_chain.specs.Heights.{all_blocks, has_hash, block_height}
use Rattle.cf_chain.specs.Serve.{header_or_zeros, header_before, filters_between, thousands, cfilter_of}
use Rattle.cf_chain.proofs.Places.{height_within, length-filters_of}
use Rattle.cf_chain.proofs.Bounds.{txs_longer}
use Rattle.cf_server.proofs.FilterLength.{length-basic_filter}
use Rattle.cf_server.proofs.Lists.{all-take, all-drop, all-at, all-map}

-- ---- blocks

good_fit : (coins : CoinMap) (blocks : List Block) → AreGoodBlocks coins blocks → AllByRecursion IsBlock blocks
good_fit coins [] good = tt
good_fit coins (b ∷ bs) good = (good.0.spelled, good_fit (after_block coins b) bs good.1)

blocks_fit : (blocks : List Block) → IsGoodChain blocks → AllByRecursion IsBlock (all_blocks blocks)
blocks_fit blocks good = (block_is, good_fit empty blocks good.each)

pub block_fits : (blocks : List Block) (height : ℕ) → IsGoodChain blocks → IsBlock (get_or (all_blocks blocks) height first_block)
block_fits blocks height good = all-at IsBlock (all_blocks blocks) height first_block (blocks_fit blocks good) block_is

headers_fit : (blocks : List Block) (start count : ℕ) → IsGoodChain blocks → AllByRecursion IsHeader (take count (drop start (map (λ b. b.header) (all_blocks blocks))))
headers_fit blocks start count good =
    let each : AllByRecursion IsHeader (map (λ b. b.header) (all_blocks blocks)) = all-map IsBlock IsHeader (λ b. b.header) (all_blocks blocks) (λ b fits. fits.header) (blocks_fit blocks good) in
    all-take IsHeader (drop start (map (λ b. b.header) (all_blocks blocks))) count (all-drop IsHeader (map (λ b. b.header) (all_blocks blocks)) start each)

pub headers_small : (blocks : List Block) (start count : ℕ) → IsGoodChain blocks → count ≤ 2000
    → (length (take count (drop start (map (λ b. b.header) (all_blocks blocks)))) ≤ 2000) × (length (payload_of (Headers (take count (drop start (map (λ b. b.header) (all_blocks blocks)))))) ≤ 4000000)
headers_small blocks start count good few =
    let hs : List Header = take count (drop start (map (λ b. b.header) (all_blocks blocks))) in
    let long = length-take count (drop start (map (λ (b : Block). b.header) (all_blocks blocks))) in
    let size = headers_size hs (headers_fit blocks start count good) in
    (omega (arith, long, few), omega (arith, long, few, size))

-- ---- filters

-- a filter, its block's hash and its header
abbrev pub IsFit : Filtered → Type 0
IsFit f = (length f.block ≡ 32) × (length f.filter ≤ 3999900) × (length f.header ≡ 32)

header_length : (hash previous : List ℕ) → length (filter_header_of hash previous) ≡ 32
unfolding filter_header_of
header_length hash previous = length-hash_of (hash ++ previous)

hash_length : (filter : List ℕ) → length (filter_hash_of filter) ≡ 32
unfolding filter_hash_of
hash_length filter = length-hash_of filter

-- a block has no more items than bytes
block_thin : (coins : CoinMap) (b : Block) → IsBlock b → length (items_of b (prevouts coins b)) ≤ 1000000
unfolding block_spelling
block_thin coins b is =
    let scripts = length-map (spent_by coins b.txs) (λ (o : Output). o.script) in
    let text : List ℕ = flat_map tx_spelling b.txs in
    omega (
      arith,
      items_few b (prevouts coins b),
      scripts,
      txs_longer coins b.txs,
      length-append (header_spelling b.header) (compact (length b.txs) ++ text),
      length-append (compact (length b.txs)) text,
      is.short,
    )

first_thin : length (items_of first_block []) ≤ 1000000
unfolding first_block
first_thin = let one : length (flat_map paid_scripts first_block.txs) ≤ 1000000 = lit≤ tt in omega (arith, items_few first_block [], one)

filtered_fits : (spent : List (List ℕ)) (previous : List ℕ) (b : Block) → length (items_of b spent) ≤ 1000000 → IsFit (filtered spent previous b)
filtered_fits spent previous b thin = (
  block_hash_length b.header,
  length-basic_filter (block_hash_of b.header) (items_of b spent) thin,
  header_length (filter_hash_of (basic_filter_of (block_hash_of b.header) (items_of b spent))) previous,
)

filtered_on_fit : (coins : CoinMap) (previous : List ℕ) (blocks : List Block) → AreGoodBlocks coins blocks → AllByRecursion IsFit (filtered_on coins previous blocks)
filtered_on_fit coins previous [] good = tt
filtered_on_fit coins previous (b ∷ bs) good = (
  filtered_fits (prevouts coins b) previous b (block_thin coins b good.0.spelled),
  filtered_on_fit (after_block coins b) (filtered (prevouts coins b) previous b).header bs good.1,
)

first_filtered_fits : IsFit first_filtered
first_filtered_fits = filtered_fits [] (replicate 32 0) first_block first_thin

filters_fit : (blocks : List Block) → IsGoodChain blocks → AllByRecursion IsFit (filters_of blocks)
filters_fit blocks good = (first_filtered_fits, filtered_on_fit empty first_filtered.header blocks good.each)

pub filter_fits : (blocks : List Block) (height : ℕ) → IsGoodChain blocks → IsFit (get_or (filters_of blocks) height first_filtered)
filter_fits blocks height good = all-at IsFit (filters_of blocks) height first_filtered (filters_fit blocks good) first_filtered_fits

pub cfilter_small : (block : Hash32) (bytes : List ℕ) → IsHash block → length bytes ≤ 3999900 → length (payload_of (Cfilter 0 block bytes)) ≤ 4000000
cfilter_small block bytes hash few = omega (arith, cfilter_size 0 block bytes hash, few)

-- ---- hashes and headers of filters

same_is : (a b : List ℕ) → same a b ≡ true → a ≡ b
unfolding same
same_is a b is = (bytes_eq-Decides a b).0 is

-- a hash that stands in a chain is a hash
pub hash_fits : (hash : Hash32) (blocks : List Block) (height : ℕ) → block_height hash blocks ≡ Some height → IsHash hash
hash_fits hash blocks height is =
    let at = position-Some (has_hash hash) (all_blocks blocks) height first_block is in
    sym (ap length (same_is (block_hash_of (get_or (all_blocks blocks) height first_block).header) hash.0 at.1)) ∙ block_hash_length (get_or (all_blocks blocks) height first_block).header

-- checkpoints up to a height of a good chain are few
pub checkpoints_few : (hash : Hash32) (blocks : List Block) (height : ℕ) → IsGoodChain blocks → block_height hash blocks ≡ Some height → height / 1000 ≤ 500
checkpoints_few hash blocks height good is = omega (arith, height_within hash blocks height is, good.height)

shown_of : (fs : List Filtered) (h : ℕ) → AllByRecursion IsFit fs → IsHash (header_or_zeros (slice_get fs h))
shown_of [] h each = refl
shown_of (f ∷ fs) zero each = each.0.2
shown_of (f ∷ fs) (suc h) each = shown_of fs h each.1

pub shown_fits : (blocks : List Block) (h : ℕ) → IsGoodChain blocks → IsHash (header_or_zeros (filter_at blocks h))
shown_fits blocks h good = shown_of (filters_of blocks) h (filters_fit blocks good)

pub before_fits : (blocks : List Block) (h : ℕ) → IsGoodChain blocks → IsHash (header_before h blocks)
before_fits blocks zero good = refl
before_fits blocks (suc h) good = shown_fits blocks h good

pub hashes_fit : (fs : List Filtered) → AllByRecursion IsHash (map (λ f. record { 0 = filter_hash_of f.filter }) fs)
hashes_fit [] = tt
hashes_fit (f ∷ fs) = (hash_length f.filter, hashes_fit fs)

pub cfheaders_small : (blocks : List Block) (start stop_height : ℕ) (stop : Hash32) (previous : Hash32) (hashes : List Hash32) → IsGoodChain blocks → block_height stop blocks ≡ Some stop_height → stop_height < start + 2000
    → previous ≡ header_before start blocks → hashes ≡ map (λ f. record { 0 = filter_hash_of f.filter }) (filters_between start stop_height blocks)
    → (length hashes ≤ 2000) × (length (payload_of (Cfheaders 0 stop previous hashes)) ≤ 4000000)
cfheaders_small blocks start stop_height stop previous hashes good there few before are =
    let fs : List Filtered = filters_between start stop_height blocks in
    let long = length-take (suc stop_height - start) (drop start (filters_of blocks)) in
    let many : length hashes ≡ length fs = ap length are ∙ length-map fs (λ (f : Filtered). record { 0 = filter_hash_of f.filter }) in
    let hash : IsHash stop = hash_fits stop blocks stop_height there in
    let size = cfheaders_size 0 stop previous hashes hash (subst IsHash (sym before) (before_fits blocks start good)) (subst (AllByRecursion IsHash) (sym are) (hashes_fit fs)) in
    (omega (arith, long, many, few), omega (arith, long, many, few, size))

length-thousands : (n : ℕ) → length (thousands n) ≡ n
length-thousands zero = refl
length-thousands (suc n) = omega (arith, length-append (thousands n) ((1000 * suc n) ∷ []), length-thousands n)

pub checkpoints_fit : (blocks : List Block) (hs : List ℕ) → IsGoodChain blocks → AllByRecursion IsHash (map (λ h. header_or_zeros (filter_at blocks h)) hs)
checkpoints_fit blocks [] good = tt
checkpoints_fit blocks (h ∷ hs) good = (shown_fits blocks h good, checkpoints_fit blocks hs good)

pub cfcheckpt_small : (blocks : List Block) (stop_height : ℕ) (stop : Hash32) (headers : List Hash32) → IsGoodChain blocks → block_height stop blocks ≡ Some stop_height
    → headers ≡ map (λ h. header_or_zeros (filter_at blocks h)) (thousands (stop_height / 1000)) → (length headers ≤ 2000) × (length (payload_of (Cfcheckpt 0 stop headers)) ≤ 4000000)
cfcheckpt_small blocks stop_height stop headers good there are =
    let hs : List ℕ = thousands (stop_height / 1000) in
    let many : length headers ≡ length hs = ap length are ∙ length-map hs (λ h. header_or_zeros (filter_at blocks h)) in
    let long = length-thousands (stop_height / 1000) in
    let few = checkpoints_few stop blocks stop_height good there in
    let size = cfcheckpt_size 0 stop headers (hash_fits stop blocks stop_height there) (subst (AllByRecursion IsHash) (sym are) (checkpoints_fit blocks hs good)) in
    (omega (arith, many, long, few), omega (arith, many, long, few, size))

-- ---- what is read of an index

same_some : {X : Type 0} (x y : X) → Some x ≡ Some y → x ≡ y
same_some x y e = cc

-- the block at a height
pub block_read : (blocks : List Block) (height : ℕ) (b : Block) → Some b ≡ slice_get (all_blocks blocks) height → get_or (all_blocks blocks) height first_block ≡ b
block_read blocks height b is = get_or_from_slice_get (all_blocks blocks) height b first_block (sym is)

-- the filter at a height, and its block's hash
pub filter_read : (blocks : List Block) (height : ℕ) (block : Hash32) (filter : List ℕ) → height ≤ length blocks → Some block.0 ≡ option_map (λ f. f.block) (filter_at blocks height)
    → Some filter ≡ option_map (λ f. f.filter) (filter_at blocks height)
    → (block.0 ≡ (get_or (filters_of blocks) height first_filtered).block) × (filter ≡ (get_or (filters_of blocks) height first_filtered).filter)
filter_read blocks height block filter le hash text =
    let f : Filtered = get_or (filters_of blocks) height first_filtered in
    let there : filter_at blocks height ≡ Some f = slice_get-get_or (filters_of blocks) height first_filtered (omega (arith, length-filters_of blocks, le)) in
    (same_some block.0 f.block (hash ∙ ap (option_map (λ (g : Filtered). g.block)) there), same_some filter f.filter (text ∙ ap (option_map (λ (g : Filtered). g.filter)) there))

pub filter_bytes_fit : (blocks : List Block) (height : ℕ) (block : Hash32) (filter bytes : List ℕ) → IsGoodChain blocks → height ≤ length blocks → Some block.0 ≡ option_map (λ f. f.block) (filter_at blocks height)
    → Some filter ≡ option_map (λ f. f.filter) (filter_at blocks height) → bytes ≡ filter → (length bytes ≤ 3999900) × (length (payload_of (Cfilter 0 block bytes)) ≤ 4000000)
filter_bytes_fit blocks height block filter bytes good le hash text is =
    let read = filter_read blocks height block filter le hash text in
    let fits = filter_fits blocks height good in
    let few : length bytes ≤ 3999900 = omega (arith, ap length is, ap length read.1, fits.1) in
    (few, cfilter_small block bytes (ap length read.0 ∙ fits.0) few)

pub filter_message : (blocks : List Block) (height : ℕ) (block : Hash32) (filter bytes : List ℕ) → height ≤ length blocks → Some block.0 ≡ option_map (λ f. f.block) (filter_at blocks height)
    → Some filter ≡ option_map (λ f. f.filter) (filter_at blocks height) → bytes ≡ filter → Cfilter 0 block bytes ≡ cfilter_of (get_or (filters_of blocks) height first_filtered)
filter_message blocks height block filter bytes le hash text is =
    let read = filter_read blocks height block filter le hash text in
    (λ i. Cfilter 0 (record { 0 = read.0 i }) ((is ∙ read.1) i))
