-- What planned replies stand for.
use Rattle.std.proofs.Common.{◌≡◌, ℕ, zero, suc, ◌+◌, ◌-◌, ◌<◌, ◌≤◌, min, Bool, true, false, List, [], ◌∷◌, ◌++◌, length, map, take, drop, Option, Some, None, refl, sym, ap, ◌∙◌, arith, inl, inr, slice_get, get_or, length-drop}
use Rattle.std.specs.Prelude.{◌==◌, nat_le, nat_lt, if◌then◌else◌}
use Rattle.std.specs.List.{flat_map, range_with_len}
use Rattle.std.specs.Option.{option_to_list}
use Rattle.std.proofs.lemmas.Bool.{cases_Bool, leb-true, ltb-true}
use Rattle.std.proofs.lemmas.List.{length-map, take-map, take_min}
use Rattle.std.proofs.lemmas.Option.{slice_get-get_or}
use Rattle.cf_bytes.specs.declared.hash.Hash32.{Hash32}
use Rattle.cf_block.specs.declared.header.Header.{Header}
use Rattle.cf_block.specs.declared.tx.Block.{Block}
use Rattle.cf_block.specs.Genesis.{first_block}
use Rattle.cf_msg.specs.declared.msg.Inventory.{Inventory}
use Rattle.cf_msg.specs.declared.msg.Msg.{Msg}
use Rattle.cf_msg.specs.declared.msg.Msg.TheVariants.{Version, Ping, GetHeaders, Headers, GetData, Block as BlockMessage, GetCfilters, GetCfheaders, GetCfcheckpt}
use Rattle.cf_chain.specs.Filters.{first_filtered, filters_of}
use Rattle.cf_chain.specs.Heights.{all_blocks, block_height}
use Rattle.cf_chain.specs.Serve.{fork_height, or_next, most_headers, block_in, block_with, headers_reply, data_reply, within, range_end, cfilter_of, cfilters_reply, cfheaders_reply, cfcheckpt_reply, replies_to, reply_to}
use Rattle.cf_chain.proofs.Places.{height_within, length-filters_of}
use Rattle.cf_server.specs.declared.answering.Serving.{Serving}
use Rattle.cf_server.specs.declared.reply.Reply.{Reply}
use Rattle.cf_server.specs.declared.reply.Reply.TheVariants.{BlockAt, CfilterAt}
use Rattle.cf_server.specs.Plans.{Begun, alone_plan, above_plan, headers_plan, data_plan, cfilters_plan, cfheaders_plan, cfcheckpt_plan, basic_height, plan_for, greeting_plan, plan_of}
use Rattle.cf_server.specs.Replies.{message_of, messages_of, IsReplyOf, AreRepliesOf, Adds}
use Rattle.cf_server.proofs.Lists.{all-take, map-flat_map, flat_map-same, all-flat_map, take_next}

-- the fork of a locator is a block's height
or_within : (hash : Hash32) (blocks : List Block) (o : Option ℕ) (next : ℕ) → block_height hash blocks ≡ o → next ≤ length blocks → or_next o next ≤ length blocks
or_within hash blocks None next is le = le
or_within hash blocks (Some height) next is le = height_within hash blocks height is

pub fork_within : (locator : List Hash32) (blocks : List Block) → fork_height locator blocks ≤ length blocks
fork_within [] blocks = omega arith
fork_within (hash ∷ more) blocks = or_within hash blocks (block_height hash blocks) (fork_height more blocks) refl (fork_within more blocks)

-- ---- headers

one_header : (xs : List Block) (h : ℕ) → h < length xs → Headers (take 1 (drop h (map (λ b. b.header) xs))) ∷ [] ≡ map (λ b. Headers (b.header ∷ [])) (option_to_list (slice_get xs h))
one_header [] h lt = absurd (omega arith)
one_header (x ∷ xs) zero lt = refl
one_header (x ∷ xs) (suc h) lt = one_header xs h (omega arith)

alone_tells : (served : Serving) (blocks : List Block) (stop : Hash32) (o : Option ℕ) → block_height stop blocks ≡ o
    → messages_of served blocks (alone_plan o) ≡ map (λ b. Headers (b.header ∷ [])) (block_in blocks o)
alone_tells served blocks stop None is = refl
alone_tells served blocks stop (Some h) is = one_header (all_blocks blocks) h (omega (arith, height_within stop blocks h is))

above_tells : (served : Serving) (blocks : List Block) (fork : ℕ) (stop : Option ℕ)
    → messages_of served blocks (above_plan fork stop blocks) ≡ Headers (take (most_headers fork stop) (drop fork (map (λ b. b.header) blocks))) ∷ []
above_tells served blocks fork stop =
    let above : List Header = drop fork (map (λ b. b.header) blocks) in
    let many : length blocks - fork ≡ length above = sym (length-drop fork (map (λ b. b.header) blocks) ∙ ap (λ n. n - fork) (length-map blocks (λ (b : Block). b.header))) in
    ap (λ (hs : List Header). Headers hs ∷ []) (ap (λ n. take (min (most_headers fork stop) n) above) many ∙ take_min (most_headers fork stop) above)

headers_tell : (served : Serving) (blocks : List Block) (locator : List Hash32) (stop : Hash32) → messages_of served blocks (headers_plan locator stop blocks) ≡ headers_reply locator stop blocks
headers_tell served blocks [] stop = alone_tells served blocks stop (block_height stop blocks) refl
headers_tell served blocks (hash ∷ more) stop = above_tells served blocks (fork_height (hash ∷ more) blocks) (block_height stop blocks)

-- ---- blocks

block_tells : (served : Serving) (blocks : List Block) (hash : Hash32) (o : Option ℕ) → block_height hash blocks ≡ o
    → messages_of served blocks (map (λ h. BlockAt h) (option_to_list o)) ≡ map (λ b. BlockMessage b) (block_in blocks o)
block_tells served blocks hash None is = refl
block_tells served blocks hash (Some h) is =
    ap (λ (o : Option Block). map (λ b. BlockMessage b) (option_to_list o)) (sym (slice_get-get_or (all_blocks blocks) h first_block (omega (arith, height_within hash blocks h is))))

entry_tells : (served : Serving) (blocks : List Block) (entry : Inventory) → messages_of served blocks (data_plan blocks entry) ≡ data_reply blocks entry
entry_tells served blocks entry = elim (entry.kind == 2)
    as (λ b. messages_of served blocks (if b then map (λ h. BlockAt h) (option_to_list (block_height entry.hash blocks)) else []) ≡ (if b then map (λ b. BlockMessage b) (block_with entry.hash blocks) else [])) [
      | true ↦ block_tells served blocks entry.hash (block_height entry.hash blocks) refl
      | false ↦ refl
    ]

data_tell : (served : Serving) (blocks : List Block) (entries : List Inventory) → messages_of served blocks (flat_map (data_plan blocks) entries) ≡ flat_map (data_reply blocks) entries
data_tell served blocks entries =
    map-flat_map (message_of served blocks) (data_plan blocks) entries
    ∙ flat_map-same (λ e. messages_of served blocks (data_plan blocks e)) (data_reply blocks) entries (entry_tells served blocks)

-- ---- filters

within_parts : (limit start : ℕ) (o : Option ℕ) (last : ℕ) → within limit start o ≡ Some last → (o ≡ Some last) × (start ≤ last) × (last < start + limit)
within_parts limit start None last is = cc
within_parts limit start (Some stop) last is = elim (cases_Bool (nat_le start stop)) [
  | inr off ↦ absurd (let no : None ≡ Some last = sym (rw off refl) ∙ is in cc)
  | inl low ↦ elim (cases_Bool (nat_lt (stop - start) limit)) [
    | inr off ↦ absurd (let no : None ≡ Some last = sym (rw (low, off) refl) ∙ is in cc)
    | inl few ↦ let same : Some stop ≡ Some last = sym (rw (low, few) refl) ∙ is in
        let at : stop ≡ last = cc in
        (same, omega (arith, leb-true start stop low, at), omega (arith, leb-true start stop low, ltb-true (stop - start) limit few, at))
  ]
]

pub range_parts : (limit filter start : ℕ) (stop : Hash32) (blocks : List Block) (last : ℕ) → range_end limit filter start stop blocks ≡ Some last
    → (start ≤ last) × (last < start + limit) × (block_height stop blocks ≡ Some last)
range_parts limit filter start stop blocks last is = elim (cases_Bool (filter == 0)) [
  | inr off ↦ absurd (let no : None ≡ Some last = sym (ap (λ b. if b then within limit start (block_height stop blocks) else None) off) ∙ is in cc)
  | inl on ↦ let here : within limit start (block_height stop blocks) ≡ Some last = sym (ap (λ b. if b then within limit start (block_height stop blocks) else None) on) ∙ is in
      let parts = within_parts limit start (block_height stop blocks) last here in
      (parts.1, parts.2, parts.0)
]

basic_is : (filter : ℕ) (stop : Hash32) (blocks : List Block) (h : ℕ) → basic_height filter stop blocks ≡ Some h → block_height stop blocks ≡ Some h
basic_is filter stop blocks h is = elim (cases_Bool (filter == 0)) [
  | inr off ↦ absurd (let no : None ≡ Some h = sym (ap (λ b. if b then block_height stop blocks else None) off) ∙ is in cc)
  | inl on ↦ sym (ap (λ b. if b then block_height stop blocks else None) on) ∙ is
]

each_cfilter : (served : Serving) (blocks : List Block) (start n : ℕ) → start + n ≤ length (filters_of blocks)
    → messages_of served blocks (map (λ h. CfilterAt h) (range_with_len start n)) ≡ map cfilter_of (take n (drop start (filters_of blocks)))
each_cfilter served blocks start zero le = refl
each_cfilter served blocks start (suc n) le =
    ap (λ (ms : List Msg). cfilter_of (get_or (filters_of blocks) start first_filtered) ∷ ms) (each_cfilter served blocks (start + 1) n (omega arith))
    ∙ ap (map cfilter_of) (sym (take_next (filters_of blocks) start n first_filtered (omega arith)))

cfilters_tell : (served : Serving) (blocks : List Block) (start : ℕ) (o : Option ℕ) → ((last : ℕ) → o ≡ Some last → (start ≤ last) × (last ≤ length blocks))
    → messages_of served blocks (cfilters_plan start o) ≡ cfilters_reply start o blocks
cfilters_tell served blocks start None parts = refl
cfilters_tell served blocks start (Some last) parts =
    let p = parts last refl in
    each_cfilter served blocks start (suc last - start) (omega (arith, length-filters_of blocks, p.0, p.1))

cfheaders_tell : (served : Serving) (blocks : List Block) (start : ℕ) (o : Option ℕ) (stop : Hash32) → messages_of served blocks (cfheaders_plan start o stop) ≡ cfheaders_reply start o stop blocks
cfheaders_tell served blocks start None stop = refl
cfheaders_tell served blocks start (Some stop_height) stop = refl

cfcheckpt_tells : (served : Serving) (blocks : List Block) (o : Option ℕ) (stop : Hash32) → messages_of served blocks (cfcheckpt_plan o stop) ≡ cfcheckpt_reply o stop blocks
cfcheckpt_tells served blocks None stop = refl
cfcheckpt_tells served blocks (Some stop_height) stop = refl

-- ---- all of it

for_tells : (served : Serving) (blocks : List Block) (m : Msg) → messages_of served blocks (plan_for blocks m) ≡ reply_to blocks m
for_tells served blocks (Ping number) = refl
for_tells served blocks (GetHeaders version locator stop) = headers_tell served blocks locator stop
for_tells served blocks (GetData entries) = data_tell served blocks entries
for_tells served blocks (GetCfilters filter start stop) =
    cfilters_tell served blocks start (range_end 1000 filter start stop blocks) (λ last is. let p = range_parts 1000 filter start stop blocks last is in (p.0, height_within stop blocks last p.2))
for_tells served blocks (GetCfheaders filter start stop) = cfheaders_tell served blocks start (range_end 2000 filter start stop blocks) stop
for_tells served blocks (GetCfcheckpt filter stop) = cfcheckpt_tells served blocks (basic_height filter stop blocks) stop
for_tells served blocks m = refl

greeting_tells : (served : Serving) (blocks : List Block) (m : Msg) → messages_of served blocks (greeting_plan m) ≡ replies_to served.time served.nonce blocks false m
greeting_tells served blocks (Version version services time to from nonce agent height relay) = refl
greeting_tells served blocks m = refl

pub plan_tells : (served : Serving) (blocks : List Block) (seen : Bool) (m : Msg) → messages_of served blocks (plan_of seen blocks m) ≡ replies_to served.time served.nonce blocks seen m
plan_tells served blocks true m = for_tells served blocks m
plan_tells served blocks false m = greeting_tells served blocks m

-- ---- each is a reply of the chain

count_within : (fork : ℕ) (stop : Option ℕ) → most_headers fork stop ≤ 2000
count_within fork None = omega arith
count_within fork (Some stop) = elim (nat_lt fork stop) as (λ b. (if b then min 2000 (stop - fork) else 2000) ≤ 2000) [ true ↦ omega arith | false ↦ omega arith ]

alone_are : (blocks : List Block) (stop : Hash32) (o : Option ℕ) → block_height stop blocks ≡ o → AreRepliesOf blocks (alone_plan o)
alone_are blocks stop None is = tt
alone_are blocks stop (Some h) is = ((omega arith, omega (arith, height_within stop blocks h is)), tt)

above_are : (blocks : List Block) (fork : ℕ) (stop : Option ℕ) → fork ≤ length blocks → AreRepliesOf blocks (above_plan fork stop blocks)
above_are blocks fork stop le = ((omega (arith, count_within fork stop), omega (arith, count_within fork stop)), tt)

headers_are : (blocks : List Block) (locator : List Hash32) (stop : Hash32) → AreRepliesOf blocks (headers_plan locator stop blocks)
headers_are blocks [] stop = alone_are blocks stop (block_height stop blocks) refl
headers_are blocks (hash ∷ more) stop = above_are blocks (fork_height (hash ∷ more) blocks) (block_height stop blocks) (fork_within (hash ∷ more) blocks)

block_are : (blocks : List Block) (hash : Hash32) (o : Option ℕ) → block_height hash blocks ≡ o → AreRepliesOf blocks (map (λ h. BlockAt h) (option_to_list o))
block_are blocks hash None is = tt
block_are blocks hash (Some h) is = (height_within hash blocks h is, tt)

entry_are : (blocks : List Block) (entry : Inventory) → AreRepliesOf blocks (data_plan blocks entry)
entry_are blocks entry = elim (entry.kind == 2) as (λ b. AreRepliesOf blocks (if b then map (λ h. BlockAt h) (option_to_list (block_height entry.hash blocks)) else [])) [
  | true ↦ block_are blocks entry.hash (block_height entry.hash blocks) refl
  | false ↦ tt
]

each_are : (blocks : List Block) (start n : ℕ) → start + n ≤ suc (length blocks) → AreRepliesOf blocks (map (λ h. CfilterAt h) (range_with_len start n))
each_are blocks start zero le = tt
each_are blocks start (suc n) le = (omega arith, each_are blocks (start + 1) n (omega arith))

cfilters_are : (blocks : List Block) (start : ℕ) (o : Option ℕ) → ((last : ℕ) → o ≡ Some last → (start ≤ last) × (last ≤ length blocks)) → AreRepliesOf blocks (cfilters_plan start o)
cfilters_are blocks start None parts = tt
cfilters_are blocks start (Some last) parts = let p = parts last refl in each_are blocks start (suc last - start) (omega (arith, p.0, p.1))

cfheaders_are : (blocks : List Block) (start : ℕ) (o : Option ℕ) (stop : Hash32) → ((last : ℕ) → o ≡ Some last → (start ≤ last) × (last < start + 2000) × (block_height stop blocks ≡ Some last)) → AreRepliesOf blocks (cfheaders_plan start o stop)
cfheaders_are blocks start None stop parts = tt
cfheaders_are blocks start (Some stop_height) stop parts = (parts stop_height refl, tt)

cfcheckpt_are : (blocks : List Block) (o : Option ℕ) (stop : Hash32) → ((h : ℕ) → o ≡ Some h → block_height stop blocks ≡ Some h) → AreRepliesOf blocks (cfcheckpt_plan o stop)
cfcheckpt_are blocks None stop parts = tt
cfcheckpt_are blocks (Some stop_height) stop parts = (parts stop_height refl, tt)

for_are : (blocks : List Block) (m : Msg) → AreRepliesOf blocks (plan_for blocks m)
for_are blocks (Ping number) = (tt, tt)
for_are blocks (GetHeaders version locator stop) = headers_are blocks locator stop
for_are blocks (GetData entries) = all-flat_map (IsReplyOf blocks) (data_plan blocks) entries (entry_are blocks)
for_are blocks (GetCfilters filter start stop) =
    cfilters_are blocks start (range_end 1000 filter start stop blocks) (λ last is. let p = range_parts 1000 filter start stop blocks last is in (p.0, height_within stop blocks last p.2))
for_are blocks (GetCfheaders filter start stop) =
    cfheaders_are blocks start (range_end 2000 filter start stop blocks) stop (λ last is. let p = range_parts 2000 filter start stop blocks last is in (p.0, p.1, p.2))
for_are blocks (GetCfcheckpt filter stop) = cfcheckpt_are blocks (basic_height filter stop blocks) stop (basic_is filter stop blocks)
for_are blocks m = tt

greeting_are : (blocks : List Block) (m : Msg) → AreRepliesOf blocks (greeting_plan m)
greeting_are blocks (Version version services time to from nonce agent height relay) = (tt, (tt, tt))
greeting_are blocks m = tt

pub plan_are : (blocks : List Block) (seen : Bool) (m : Msg) → AreRepliesOf blocks (plan_of seen blocks m)
plan_are blocks true m = for_are blocks m
plan_are blocks false m = greeting_are blocks m

-- a plan at the end
pub adds_plan : (served : Serving) (blocks : List Block) (m : Msg) (old new : List Reply) → new ≡ old ++ plan_of served.seen blocks m
    → Adds served blocks old new (replies_to served.time served.nonce blocks served.seen m)
adds_plan served blocks m old new is = record {
  added = plan_of served.seen blocks m;
  joined = is;
  told = plan_tells served blocks served.seen m;
  each = plan_are blocks served.seen m;
}

pub adds_begun : (served : Serving) (blocks : List Block) (m : Msg) (old new : List Reply) → Begun old new (plan_of served.seen blocks m)
    → (n : ℕ) × Adds served blocks old new (take n (replies_to served.time served.nonce blocks served.seen m))
adds_begun served blocks m old new begun = (
  begun.0,
  record {
    added = take begun.0 (plan_of served.seen blocks m);
    joined = begun.1;
    told = sym (take-map (message_of served blocks) begun.0 (plan_of served.seen blocks m)) ∙ ap (take begun.0) (plan_tells served blocks served.seen m);
    each = all-take (IsReplyOf blocks) (plan_of served.seen blocks m) begun.0 (plan_are blocks served.seen m);
  },
)
