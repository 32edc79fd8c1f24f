-- statement: what the serving machine of a chain answers (Bitcoin developer reference, "P2P Network"; BIP 157, "New Messages"). A chain is its
-- blocks above genesis, the lowest first.
use Rattle.std.specs.Prelude.{ℕ, ℤ, zero, suc, pos, ◌-◌, ◌*◌, ◌/◌, ◌==◌, min, nat_lt, nat_le, Bool, true, false, ◌||◌, ◌&&◌, List, [], ◌∷◌, ◌++◌, map, length, take, drop, replicate, codes, slice_get, Option, Some, None, option_to_list, if◌then◌else◌}
use Rattle.std.specs.List.{flat_map}
use Rattle.cf_bytes.specs.declared.hash.Hash32.{Hash32}
use Rattle.cf_block.specs.declared.header.Header.{Header}
use Rattle.cf_block.specs.declared.tx.Block.{Block}
use Rattle.cf_filter.specs.Filter.{filter_hash_of}
use Rattle.cf_msg.specs.declared.msg.Inventory.{Inventory}
use Rattle.cf_msg.specs.declared.msg.Msg.{Msg}
use Rattle.cf_msg.specs.declared.msg.Msg.TheVariants.{Version, Verack, Ping, Pong, GetHeaders, Headers, GetData, Block as BlockMessage, GetCfilters, Cfilter, GetCfheaders, Cfheaders, GetCfcheckpt, Cfcheckpt}
use Rattle.cf_msg.specs.Message.{is_version, no_address}
use Rattle.cf_chain.specs.Filters.{Filtered, filters_of, filter_at}
use Rattle.cf_chain.specs.Heights.{all_blocks, block_height}

-- ---- headers

-- the first height where there is one, and else the other
abbrev pub or_next : Option ℕ → ℕ → ℕ
or_next (Some height) next = height
or_next None next = next

-- the height of the first hash of a locator that is in the chain, and genesis's where none is
abbrev pub fork_height : List Hash32 → List Block → ℕ
fork_height [] blocks = 0
fork_height (hash ∷ more) blocks = or_next (block_height hash blocks) (fork_height more blocks)

-- how many headers there may be above a height and up to a stop hash, by the stop's height if it is in the chain: at most 2000. A stop
-- that isn't above is never met.
abbrev pub most_headers : ℕ → Option ℕ → ℕ
most_headers fork None = 2000
most_headers fork (Some stop) = if nat_lt fork stop then min 2000 (stop - fork) else 2000

-- the headers above what the asker knows
abbrev pub next_headers : List Hash32 → Hash32 → List Block → List Header
next_headers locator stop blocks =
    let fork : ℕ = fork_height locator blocks in
    take (most_headers fork (block_height stop blocks)) (drop fork (map (λ b. b.header) blocks))

-- the block at a height, or none
abbrev pub block_in : List Block → Option ℕ → List Block
block_in blocks None = []
block_in blocks (Some height) = option_to_list (slice_get (all_blocks blocks) height)

-- the block with a hash, genesis included, or none
abbrev pub block_with : Hash32 → List Block → List Block
block_with hash blocks = block_in blocks (block_height hash blocks)

-- without a locator the header of the stop hash is asked for
abbrev pub headers_reply : List Hash32 → Hash32 → List Block → List Msg
headers_reply [] stop blocks = map (λ b. Headers (b.header ∷ [])) (block_with stop blocks)
headers_reply (hash ∷ more) stop blocks = Headers (next_headers (hash ∷ more) stop blocks) ∷ []

-- ---- blocks

-- an entry of kind 2 asks for a block in the form without witnesses
abbrev pub data_reply : List Block → Inventory → List Msg
data_reply blocks entry = if entry.kind == 2 then map (λ b. BlockMessage b) (block_with entry.hash blocks) else []

-- ---- filters

-- the height where a range ends that may be asked for: it begins no later, and has no more heights than the limit
abbrev pub within : ℕ → ℕ → Option ℕ → Option ℕ
within limit start None = None
within limit start (Some stop) = if nat_le start stop && nat_lt (stop - start) limit then Some stop else None

-- the same of a range of basic filters, by the hash of its last block
abbrev pub range_end : ℕ → ℕ → ℕ → Hash32 → List Block → Option ℕ
range_end limit filter start stop blocks = if filter == 0 then within limit start (block_height stop blocks) else None

-- the filters from one height to another
abbrev pub filters_between : ℕ → ℕ → List Block → List Filtered
filters_between start stop blocks = take (suc stop - start) (drop start (filters_of blocks))

-- the message that carries a block's basic filter (BIP 157, "cfilter")
abbrev pub cfilter_of : Filtered → Msg
cfilter_of f = Cfilter 0 (record { 0 = f.block }) f.filter

-- the answer to `getcfilters`: one `cfilter` for each block of the range; none where it may not be asked for
abbrev pub cfilters_reply : ℕ → Option ℕ → List Block → List Msg
cfilters_reply start None blocks = []
cfilters_reply start (Some stop) blocks = map cfilter_of (filters_between start stop blocks)

-- a filter header that is there, and 32 zero bytes where there is none
abbrev pub header_or_zeros : Option Filtered → Hash32
header_or_zeros None = record { 0 = replicate 32 0 }
header_or_zeros (Some f) = record { 0 = f.header }

-- the filter header before a height: 32 zero bytes before genesis
abbrev pub header_before : ℕ → List Block → Hash32
header_before zero blocks = record { 0 = replicate 32 0 }
header_before (suc height) blocks = header_or_zeros (filter_at blocks height)

-- the hashes of a range's filters, and the filter header before them (BIP 157, "cfheaders")
abbrev pub cfheaders_of : ℕ → ℕ → Hash32 → List Block → Msg
cfheaders_of start stop_height stop blocks =
    Cfheaders 0 stop (header_before start blocks) (map (λ f. record { 0 = filter_hash_of f.filter }) (filters_between start stop_height blocks))

-- the answer to `getcfheaders`: one `cfheaders`; none where the range may not be asked for
abbrev pub cfheaders_reply : ℕ → Option ℕ → Hash32 → List Block → List Msg
cfheaders_reply start None stop blocks = []
cfheaders_reply start (Some stop_height) stop blocks = cfheaders_of start stop_height stop blocks ∷ []

-- 1000, 2000, .., so many of them
abbrev pub thousands : ℕ → List ℕ
thousands zero = []
thousands (suc n) = thousands n ++ (1000 * suc n) ∷ []

-- every thousandth filter header up to a height
abbrev pub cfcheckpt_of : ℕ → Hash32 → List Block → Msg
cfcheckpt_of stop_height stop blocks = Cfcheckpt 0 stop (map (λ h. header_or_zeros (filter_at blocks h)) (thousands (stop_height / 1000)))

-- the answer to `getcfcheckpt`: one `cfcheckpt`; none where the block or the kind of filter isn't known
abbrev pub cfcheckpt_reply : Option ℕ → Hash32 → List Block → List Msg
cfcheckpt_reply None stop blocks = []
cfcheckpt_reply (Some stop_height) stop blocks = cfcheckpt_of stop_height stop blocks ∷ []

-- ---- the machine

-- what is answered once a version has come
abbrev pub reply_to : List Block → Msg → List Msg
reply_to blocks (Ping number) = Pong number ∷ []
reply_to blocks (GetHeaders version locator stop) = headers_reply locator stop blocks
reply_to blocks (GetData entries) = flat_map (data_reply blocks) entries
reply_to blocks (GetCfilters filter start stop) = cfilters_reply start (range_end 1000 filter start stop blocks) blocks
reply_to blocks (GetCfheaders filter start stop) = cfheaders_reply start (range_end 2000 filter start stop blocks) stop blocks
reply_to blocks (GetCfcheckpt filter stop) = cfcheckpt_reply (if filter == 0 then block_height stop blocks else None) stop blocks
reply_to blocks m = []

-- the machine's version: protocol 70016, services 65 (bits 0 and 6), no addresses, its agent, its height, no relay
abbrev pub version_reply : ℤ → ℕ → List Block → Msg
version_reply moment nonce blocks = Version (pos 70016) 65 moment no_address no_address nonce (codes "/cf:1/") (pos (length blocks)) (Some 0)

-- what is answered to one message, where a version came before it or not; the time and the nonce are those that the machine was given for the connection
abbrev pub replies_to : ℤ → ℕ → List Block → Bool → Msg → List Msg
replies_to moment nonce blocks true m = reply_to blocks m
replies_to moment nonce blocks false (Version version services time to from number agent height relay) = version_reply moment nonce blocks ∷ Verack ∷ []
replies_to moment nonce blocks false m = []

-- nothing is answered before the first version, and no later version is
abbrev pub replies : ℤ → ℕ → List Block → Bool → List Msg → List Msg
replies moment nonce blocks seen [] = []
replies moment nonce blocks seen (m ∷ ms) = replies_to moment nonce blocks seen m ++ replies moment nonce blocks (is_version m || seen) ms
