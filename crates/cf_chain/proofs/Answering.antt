-- What the serving machine answers.
use Rattle.std.proofs.Common.{◌≡◌, ◌≢◌, ℕ, ℤ, suc, ◌+◌, ◌-◌, ◌<◌, ◌≤◌, true, false, List, [], length, map, take, drop, Some, None, refl, ap, ◌∙◌, arith, slice_get, length-take, length-drop}
use Rattle.std.specs.Prelude.{nat_lt, ◌&&◌, ◌==◌, if◌then◌else◌, option_map}
use Rattle.std.proofs.lemmas.Bool.{le-leb, lt-leb, lt-ltb, le-ltb, ne_eqb}
use Rattle.std.proofs.lemmas.List.{length-map, take_all, drop_all}
use Rattle.std.proofs.lemmas.Option.{slice_get-map}
use Rattle.cf_bytes.specs.declared.hash.Hash32.{Hash32}
use Rattle.cf_block.specs.declared.header.Header.{Header}
use Rattle.cf_block.specs.declared.tx.Block.{Block}
use Rattle.cf_msg.specs.declared.msg.Msg.{Msg}
use Rattle.cf_msg.specs.declared.msg.Msg.TheVariants.{Version, GetCfilters, GetCfheaders, GetCfcheckpt}
use Rattle.cf_msg.specs.Message.{is_version}
use Rattle.cf_chain.specs.Filters.{filters_of, filter_at}
use Rattle.cf_chain.specs.Heights.{block_height}
use Rattle.cf_chain.specs.Serve.{within, range_end, filters_between, cfilter_of, cfilters_reply, cfheaders_reply, cfcheckpt_reply, reply_to, replies_to}
use Rattle.cf_chain.proofs.Places.{slice_get-take, slice_get-drop, height_within, length-filters_of}

pub nothing_above : (most fork : ℕ) → take {A = Header} most (drop fork []) ≡ []
nothing_above most fork = ap (take most) (drop_all fork [] (omega arith)) ∙ take_all most [] (omega arith)

pub none_before : (now : ℤ) (nonce : ℕ) (blocks : List Block) (m : Msg) → is_version m ≡ false → replies_to now nonce blocks false m ≡ []
none_before now nonce blocks (Version version services time to from number agent height relay) is = cc
none_before now nonce blocks m is = refl

pub none_again : (now : ℤ) (nonce : ℕ) (blocks : List Block) (m : Msg) → is_version m ≡ true → replies_to now nonce blocks true m ≡ []
none_again now nonce blocks (Version version services time to from number agent height relay) is = refl
none_again now nonce blocks m is = cc

-- a range that may be asked for
pub within_is : (limit start last : ℕ) → start ≤ last → last < start + limit → within limit start (Some last) ≡ Some last
within_is limit start last from to = rw (le-leb start last from, lt-ltb (last - start) limit (omega arith)) refl

pub range_is : (limit start last : ℕ) (stop : Hash32) (blocks : List Block) → block_height stop blocks ≡ Some last → start ≤ last → last < start + limit
    → range_end limit 0 start stop blocks ≡ Some last
range_is limit start last stop blocks is from to = ap (within limit start) is ∙ within_is limit start last from to

no_range : (limit filter start : ℕ) (stop : Hash32) (blocks : List Block) → block_height stop blocks ≡ None → range_end limit filter start stop blocks ≡ None
no_range limit filter start stop blocks is =
    let known : within limit start (block_height stop blocks) ≡ None = ap (within limit start) is in
    elim (filter == 0) as (λ b. (if b then within limit start (block_height stop blocks) else None) ≡ None) [ true ↦ known | false ↦ refl ]

no_height : (filter : ℕ) (stop : Hash32) (blocks : List Block) → block_height stop blocks ≡ None → (if filter == 0 then block_height stop blocks else None) ≡ None
no_height filter stop blocks is = elim (filter == 0) as (λ b. (if b then block_height stop blocks else None) ≡ None) [ true ↦ is | false ↦ refl ]

abbrev pub NotAnswered : List Block → ℕ → ℕ → Hash32 → Type 0
NotAnswered blocks filter start stop =
    (reply_to blocks (GetCfilters filter start stop) ≡ []) × (reply_to blocks (GetCfheaders filter start stop) ≡ []) × (reply_to blocks (GetCfcheckpt filter stop) ≡ [])

pub other_type : (blocks : List Block) (filter start : ℕ) (stop : Hash32) → filter ≢ 0 → NotAnswered blocks filter start stop
other_type blocks filter start stop other =
    let no : (filter == 0) ≡ false = ne_eqb filter 0 other in (
      ap (λ b. cfilters_reply start (if b then within 1000 start (block_height stop blocks) else None) blocks) no,
      ap (λ b. cfheaders_reply start (if b then within 2000 start (block_height stop blocks) else None) stop blocks) no,
      ap (λ b. cfcheckpt_reply (if b then block_height stop blocks else None) stop blocks) no,
    )

pub unknown_stop : (blocks : List Block) (filter start : ℕ) (stop : Hash32) → block_height stop blocks ≡ None → NotAnswered blocks filter start stop
unknown_stop blocks filter start stop is = (
  ap (λ o. cfilters_reply start o blocks) (no_range 1000 filter start stop blocks is),
  ap (λ o. cfheaders_reply start o stop blocks) (no_range 2000 filter start stop blocks is),
  ap (λ o. cfcheckpt_reply o stop blocks) (no_height filter stop blocks is),
)

-- a range that may not be asked for
turned_within : (limit start last : ℕ) → last < start → within limit start (Some last) ≡ None
turned_within limit start last off = ap (λ b. if b && nat_lt (last - start) limit then Some last else None) (lt-leb start last off)

long_within : (limit start last : ℕ) → start + limit ≤ last → within limit start (Some last) ≡ None
long_within limit start last long = rw (le-leb start last (omega arith), le-ltb (last - start) limit (omega arith)) refl

pub turned : (blocks : List Block) (start last : ℕ) (stop : Hash32) → block_height stop blocks ≡ Some last → last < start
    → (reply_to blocks (GetCfilters 0 start stop) ≡ []) × (reply_to blocks (GetCfheaders 0 start stop) ≡ [])
turned blocks start last stop is off = (
  ap (λ o. cfilters_reply start o blocks) (ap (within 1000 start) is ∙ turned_within 1000 start last off),
  ap (λ o. cfheaders_reply start o stop blocks) (ap (within 2000 start) is ∙ turned_within 2000 start last off),
)

pub long_filters : (blocks : List Block) (start last : ℕ) (stop : Hash32) → block_height stop blocks ≡ Some last → start + 1000 ≤ last → reply_to blocks (GetCfilters 0 start stop) ≡ []
long_filters blocks start last stop is long = ap (λ o. cfilters_reply start o blocks) (ap (within 1000 start) is ∙ long_within 1000 start last long)

pub long_headers : (blocks : List Block) (start last : ℕ) (stop : Hash32) → block_height stop blocks ≡ Some last → start + 2000 ≤ last → reply_to blocks (GetCfheaders 0 start stop) ≡ []
long_headers blocks start last stop is long = ap (λ o. cfheaders_reply start o stop blocks) (ap (within 2000 start) is ∙ long_within 2000 start last long)

-- one message for each height of a range
pub each_filter : (blocks : List Block) (start last height : ℕ) (stop : Hash32) → block_height stop blocks ≡ Some last → start ≤ height → height ≤ last → last < start + 1000
    → slice_get (reply_to blocks (GetCfilters 0 start stop)) (height - start) ≡ option_map cfilter_of (filter_at blocks height)
each_filter blocks start last height stop is from to few =
    let i = height - start in
    let reply : reply_to blocks (GetCfilters 0 start stop) ≡ map cfilter_of (filters_between start last blocks) =
    ap (λ o. cfilters_reply start o blocks) (range_is 1000 start last stop blocks is (omega arith) few) in
    let there : start + i ≡ height = omega arith in
    ap (λ ms. slice_get ms i) reply
    ∙ slice_get-map cfilter_of (filters_between start last blocks) i
    ∙ ap (option_map cfilter_of) (slice_get-take (drop start (filters_of blocks)) (suc last - start) i (omega arith) ∙ slice_get-drop (filters_of blocks) start i ∙ ap (slice_get (filters_of blocks)) there)

pub no_more : (blocks : List Block) (start last : ℕ) (stop : Hash32) → block_height stop blocks ≡ Some last → start ≤ last → last < start + 1000
    → length (reply_to blocks (GetCfilters 0 start stop)) ≡ suc last - start
no_more blocks start last stop is from few =
    let reply : reply_to blocks (GetCfilters 0 start stop) ≡ map cfilter_of (filters_between start last blocks) =
    ap (λ o. cfilters_reply start o blocks) (range_is 1000 start last stop blocks is from few) in
    let low = height_within stop blocks last is in
    ap length reply ∙ length-map (filters_between start last blocks) cfilter_of
    ∙ omega (arith, length-take (suc last - start) (drop start (filters_of blocks)), length-drop start (filters_of blocks), length-filters_of blocks, low)
