-- machine: which replies are planned for a message.
use Rattle.std.specs.Prelude.{◌≡◌, ℕ, suc, ◌-◌, ◌==◌, min, Bool, true, false, List, [], ◌∷◌, ◌++◌, map, length, take, Option, Some, None, option_to_list, if◌then◌else◌}
use Rattle.std.specs.List.{flat_map, range_with_len}
use Rattle.cf_bytes.specs.declared.hash.Hash32.{Hash32}
use Rattle.cf_block.specs.declared.tx.Block.{Block}
use Rattle.cf_msg.specs.declared.msg.Inventory.{Inventory}
use Rattle.cf_msg.specs.declared.msg.Msg.{Msg}
use Rattle.cf_msg.specs.declared.msg.Msg.TheVariants.{Version, Ping, GetHeaders, GetData, GetCfilters, GetCfheaders, GetCfcheckpt}
use Rattle.cf_chain.specs.Heights.{block_height}
use Rattle.cf_chain.specs.Serve.{fork_height, most_headers, range_end}
use Rattle.cf_server.specs.declared.reply.Reply.{Reply}
use Rattle.cf_server.specs.declared.reply.Reply.TheVariants.{OwnVersion, OwnVerack, PongOf, HeadersOf, BlockAt, CfilterAt, CfheadersOf, CfcheckptOf}

-- what was planned is a beginning of these, at the end of what was there
abbrev pub Begun : List Reply → List Reply → List Reply → Type 0
Begun old new plan = (n : ℕ) × (new ≡ old ++ take n plan)

-- how many headers there are above a height, up to a stop: as many as may be sent
abbrev pub count_above : ℕ → Option ℕ → List Block → ℕ
count_above fork stop blocks = min (most_headers fork stop) (length blocks - fork)

abbrev pub alone_plan : Option ℕ → List Reply
alone_plan None = []
alone_plan (Some height) = HeadersOf height 1 ∷ []

abbrev pub above_plan : ℕ → Option ℕ → List Block → List Reply
above_plan fork stop blocks = HeadersOf (suc fork) (count_above fork stop blocks) ∷ []

abbrev pub headers_plan : List Hash32 → Hash32 → List Block → List Reply
headers_plan [] stop blocks = alone_plan (block_height stop blocks)
headers_plan (hash ∷ more) stop blocks = above_plan (fork_height (hash ∷ more) blocks) (block_height stop blocks) blocks

abbrev pub data_plan : List Block → Inventory → List Reply
data_plan blocks entry = if entry.kind == 2 then map (λ h. BlockAt h) (option_to_list (block_height entry.hash blocks)) else []

abbrev pub cfilters_plan : ℕ → Option ℕ → List Reply
cfilters_plan start None = []
cfilters_plan start (Some stop) = map (λ h. CfilterAt h) (range_with_len start (suc stop - start))

abbrev pub cfheaders_plan : ℕ → Option ℕ → Hash32 → List Reply
cfheaders_plan start None stop = []
cfheaders_plan start (Some stop_height) stop = CfheadersOf start stop_height stop ∷ []

abbrev pub cfcheckpt_plan : Option ℕ → Hash32 → List Reply
cfcheckpt_plan None stop = []
cfcheckpt_plan (Some stop_height) stop = CfcheckptOf stop_height stop ∷ []

-- the height of a hash, where a basic filter is asked for
abbrev pub basic_height : ℕ → Hash32 → List Block → Option ℕ
basic_height filter stop blocks = if filter == 0 then block_height stop blocks else None

-- once a version has come
abbrev pub plan_for : List Block → Msg → List Reply
plan_for blocks (Ping number) = PongOf number ∷ []
plan_for blocks (GetHeaders version locator stop) = headers_plan locator stop blocks
plan_for blocks (GetData entries) = flat_map (data_plan blocks) entries
plan_for blocks (GetCfilters filter start stop) = cfilters_plan start (range_end 1000 filter start stop blocks)
plan_for blocks (GetCfheaders filter start stop) = cfheaders_plan start (range_end 2000 filter start stop blocks) stop
plan_for blocks (GetCfcheckpt filter stop) = cfcheckpt_plan (basic_height filter stop blocks) stop
plan_for blocks m = []

-- before
abbrev pub greeting_plan : Msg → List Reply
greeting_plan (Version version services time to from nonce agent height relay) = OwnVersion ∷ OwnVerack ∷ []
greeting_plan m = []

-- the replies to a message, by heights, after a version has come and before
abbrev pub plan_of : Bool → List Block → Msg → List Reply
plan_of true blocks m = plan_for blocks m
plan_of false blocks m = greeting_plan m
