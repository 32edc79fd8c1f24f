-- An index with one block more.
use Rattle.std.proofs.Common.{◌≡◌, ℕ, suc, ◌+◌, ◌<◌, List, [], ◌∷◌, ◌++◌, ◌≤◌, add-one, get_or, take, take_all, cond, length, refl, sym, ◌∙◌, ap, subst, arith, append_assoc, Option, Some, None}
use Rattle.std.specs.Prelude.{slice_get, option_map, All}
use Rattle.std.specs.Option.{option_or}
use Rattle.std.specs.List.{position}
use Rattle.std.specs.FinMap.{empty}
use Rattle.std.proofs.lemmas.List.{append-nil, map-append}
use Rattle.cf_bytes.specs.declared.hash.Hash32.{Hash32}
use Rattle.cf_block.specs.declared.tx.Block.{Block}
use Rattle.cf_block.specs.Header.{block_hash_of}
use Rattle.cf_block.specs.Tx.{IsBlock}
use Rattle.cf_chain.specs.Coins.{CoinMap, after_block, coins_after}
use Rattle.cf_chain.specs.Filters.{Filtered, prevouts, filtered, filtered_on, first_filtered, filters_of, filter_at}
use Rattle.cf_chain.specs.Good.{IsGoodChain, headers_of}
use Rattle.cf_chain.specs.Heights.{all_blocks, has_hash}
use Rattle.cf_chain.proofs.Tops.{top_at}
use Rattle.cf_headers.specs.Chain.{tip_hash}
use Rattle.cf_headers.specs.Rules.{same}
use Rattle.cf_index.specs.declared.block_filter.BlockFilter.{BlockFilter}
use Rattle.cf_index.specs.Adding.{last_of, last_header}
use Rattle.cf_index.specs.ByHash.{with_first}
use Rattle.cf_walk.specs.Files.{cause_on}
use Rattle.cf_index.specs.Filtering.{shown}
use Rattle.cf_index.specs.HeightMap.{HeightMap, AreHeightsOf}
use Rattle.cf_index.specs.Indexed.{IsIndexed}
use Rattle.cf_walk.proofs.Growing.{good_more, coins_more}
use Rattle.cf_index.proofs.Lowest.{place_more, with_first_gives}
use Rattle.cf_index.proofs.Walking.{spelled_at, coins_step}

-- ---- the filters

on_more : (coins : CoinMap) (previous : List ℕ) (blocks : List Block) (b : Block)
    → filtered_on coins previous (blocks ++ b ∷ [])
    ≡ filtered_on coins previous blocks ++ filtered (prevouts (coins_after coins blocks) b) (last_of previous (filtered_on coins previous blocks)) b ∷ []
on_more coins previous [] b = refl
on_more coins previous (x ∷ xs) b =
    ap (λ (l : List Filtered). filtered (prevouts coins x) previous x ∷ l) (on_more (after_block coins x) (filtered (prevouts coins x) previous x).header xs b)

pub filters_more : (blocks : List Block) (b : Block)
    → filters_of (blocks ++ b ∷ []) ≡ filters_of blocks ++ filtered (prevouts (coins_after empty blocks) b) (last_header blocks) b ∷ []
filters_more blocks b = ap (λ (l : List Filtered). first_filtered ∷ l) (on_more empty first_filtered.header blocks b)

on_length : (coins : CoinMap) (previous : List ℕ) (blocks : List Block)
    → length (filtered_on coins previous blocks) ≡ length blocks
on_length coins previous [] = refl
on_length coins previous (x ∷ xs) = ap suc (on_length (after_block coins x) (filtered (prevouts coins x) previous x).header xs)

last_at : (f : Filtered) (fs : List Filtered)
    → option_map (λ (g : Filtered). g.header) (slice_get (f ∷ fs) (length fs)) ≡ Some (last_of f.header fs)
last_at f [] = refl
last_at f (g ∷ fs) = last_at g fs

-- the filter at the chain's height has the last header
pub header_at : (blocks : List Block)
    → option_map (λ (f : Filtered). f.header) (filter_at blocks (length blocks)) ≡ Some (last_header blocks)
header_at blocks =
    let fs : List Filtered = filtered_on empty first_filtered.header blocks in
    ap (λ (n : ℕ). option_map (λ (f : Filtered). f.header) (slice_get (first_filtered ∷ fs) n)) (sym (on_length empty first_filtered.header blocks))
    ∙ last_at first_filtered fs

-- ---- the heights

heights_more : (blocks : List Block) (b : Block) (heights : HeightMap) (hash : Hash32) → AreHeightsOf heights blocks
    → hash.0 ≡ block_hash_of b.header
    → AreHeightsOf (with_first heights hash (length blocks + 1)) (blocks ++ b ∷ [])
heights_more blocks b heights hash before named q =
    with_first_gives heights hash q (length blocks + 1)
    ∙ ap (λ (o : Option ℕ). option_or o (cond (same hash.0 q.0) (Some (length blocks + 1)) None)) (before q)
    ∙ ap (λ (h : List ℕ). option_or (position (has_hash q) (all_blocks blocks)) (cond (same h q.0) (Some (length blocks + 1)) None)) named
    ∙ ap (λ (n : ℕ). option_or (position (has_hash q) (all_blocks blocks)) (cond (same (block_hash_of b.header) q.0) (Some n) None)) (omega arith)
    ∙ sym (place_more (has_hash q) (all_blocks blocks) b)

-- ---- together

pub added : (genesis : Block) (blocks : List Block) (filters : List BlockFilter) (heights : HeightMap) (b : Block) (f : BlockFilter) (hash : Hash32)
    → IsIndexed genesis blocks filters heights → IsBlock b → cause_on blocks b ≡ None → hash.0 ≡ block_hash_of b.header
    → shown f ≡ filtered (prevouts (coins_after empty blocks) b) (last_header blocks) b
    → IsIndexed genesis (blocks ++ b ∷ []) (filters ++ f ∷ []) (with_first heights hash (length blocks + 1))
added genesis blocks filters heights b f hash h spelled fit named told = record {
  first = h.first;
  good = good_more blocks b h.good spelled fit;
  told = map-append shown filters (f ∷ []) ∙ ap (λ (l : List Filtered). l ++ shown f ∷ []) h.told
      ∙ ap (λ (x : Filtered). filters_of blocks ++ x ∷ []) told ∙ sym (filters_more blocks b);
  placed = heights_more blocks b heights hash h.placed named;
}

-- ---- at the chain's height

abbrev hash_of_bytes : List ℕ → Option Hash32
hash_of_bytes x = Some (record { 0 = x })

some_as : {A : Type 0} (f : A → List ℕ) (o : Option A) (top : List ℕ) → option_map f o ≡ Some top
    → option_map {U = Hash32} (λ (x : A). record { 0 = f x }) o ≡ Some (record { 0 = top })
some_as f None top e = cc
some_as f (Some x) top e = (let one : f x ≡ top = cc in ap (λ (y : List ℕ). hash_of_bytes y) one)

is_top : (o : Option Hash32) (h : Hash32) (top : List ℕ) → o ≡ Some (record { 0 = top }) → o ≡ Some h → h.0 ≡ top
is_top o h top e f =
    let both : Some h ≡ Some (record { 0 = top }) = sym f ∙ e in
    let one : h ≡ record { 0 = top } = cc in
    ap (λ (x : Hash32). x.0) one

none_top : (o : Option Hash32) (top : List ℕ) → o ≡ Some (record { 0 = top }) → o ≡ None → ⊥
none_top o top e f = cc

hash_some : (blocks : List Block) (n : ℕ) (o : Option Hash32) → n ≡ length blocks
    → o ≡ option_map (λ b. record { 0 = block_hash_of b.header }) (slice_get (all_blocks blocks) n)
    → o ≡ Some (record { 0 = tip_hash (headers_of blocks) })
hash_some blocks n o e is =
    is ∙ ap (λ (k : ℕ). option_map {U = Hash32} (λ (b : Block). record { 0 = block_hash_of b.header }) (slice_get (all_blocks blocks) k)) e
    ∙ some_as (λ (b : Block). block_hash_of b.header) (slice_get (all_blocks blocks) (length blocks)) (tip_hash (headers_of blocks)) (top_at blocks)

pub hash_top : (blocks : List Block) (n : ℕ) (o : Option Hash32) (h : Hash32) → n ≡ length blocks
    → o ≡ option_map (λ b. record { 0 = block_hash_of b.header }) (slice_get (all_blocks blocks) n)
    → o ≡ Some h → h.0 ≡ tip_hash (headers_of blocks)
hash_top blocks n o h e is some = is_top o h (tip_hash (headers_of blocks)) (hash_some blocks n o e is) some

pub hash_there : (blocks : List Block) (n : ℕ) (o : Option Hash32) → n ≡ length blocks
    → o ≡ option_map (λ b. record { 0 = block_hash_of b.header }) (slice_get (all_blocks blocks) n)
    → o ≡ None → ⊥
hash_there blocks n o e is none = none_top o (tip_hash (headers_of blocks)) (hash_some blocks n o e is) none

header_some : (blocks : List Block) (n : ℕ) (o : Option Hash32) → n ≡ length blocks
    → o ≡ option_map (λ f. record { 0 = f.header }) (filter_at blocks n)
    → o ≡ Some (record { 0 = last_header blocks })
header_some blocks n o e is =
    is ∙ ap (λ (k : ℕ). option_map {U = Hash32} (λ (f : Filtered). record { 0 = f.header }) (filter_at blocks k)) e
    ∙ some_as (λ (f : Filtered). f.header) (filter_at blocks (length blocks)) (last_header blocks) (header_at blocks)

pub header_top : (blocks : List Block) (n : ℕ) (o : Option Hash32) (h : Hash32) → n ≡ length blocks
    → o ≡ option_map (λ f. record { 0 = f.header }) (filter_at blocks n)
    → o ≡ Some h → h.0 ≡ last_header blocks
header_top blocks n o h e is some = is_top o h (last_header blocks) (header_some blocks n o e is) some

pub header_there : (blocks : List Block) (n : ℕ) (o : Option Hash32) → n ≡ length blocks
    → o ≡ option_map (λ f. record { 0 = f.header }) (filter_at blocks n)
    → o ≡ None → ⊥
header_there blocks n o e is none = none_top o (last_header blocks) (header_some blocks n o e is) none

-- ---- the coins, block by block

pub spelled_all : (blocks : List Block) → IsGoodChain blocks → All IsBlock blocks
spelled_all blocks good k d lt = spelled_at empty blocks k d lt good.each

pub coins_next : (blocks : List Block) (i : ℕ) (b : Block) (coins new : CoinMap) → i < length blocks
    → b ≡ get_or blocks i b → new ≡ after_block coins b
    → coins ≡ coins_after empty (take i blocks) → new ≡ coins_after empty (take (i + 1) blocks)
coins_next blocks i b coins new lt at is laid =
    is ∙ ap (λ (m : CoinMap). after_block m b) laid ∙ ap (after_block (coins_after empty (take i blocks))) at
    ∙ sym (coins_step empty blocks i b lt) ∙ ap (λ (n : ℕ). coins_after empty (take n blocks)) (sym (add-one i))

pub coins_all : (blocks : List Block) (n : ℕ) (coins : CoinMap) → length blocks ≤ n
    → coins ≡ coins_after empty (take n blocks) → coins ≡ coins_after empty blocks
coins_all blocks n coins past laid = laid ∙ ap (coins_after empty) (take_all n blocks past)

-- ---- together, as the code has it

pub told_on : (blocks : List Block) (b : Block) (f : BlockFilter) (scripts : List (List ℕ)) (coins : CoinMap) (last : List ℕ)
    → shown f ≡ filtered scripts last b → scripts ≡ prevouts coins b → coins ≡ coins_after empty blocks
    → last ≡ last_header blocks
    → shown f ≡ filtered (prevouts (coins_after empty blocks) b) (last_header blocks) b
told_on blocks b f scripts coins last told took laid at =
    told ∙ ap (λ (l : List (List ℕ)). filtered l last b) (took ∙ ap (λ (m : CoinMap). prevouts m b) laid)
    ∙ ap (λ (h : List ℕ). filtered (prevouts (coins_after empty blocks) b) h b) at

pub added_all : (genesis : Block) (blocks new : List Block) (filters fs : List BlockFilter) (heights hs : HeightMap)
    (coins after : CoinMap) (b : Block) (f : BlockFilter) (hash : Hash32)
    → IsIndexed genesis blocks filters heights → IsBlock b → cause_on blocks b ≡ None → hash.0 ≡ block_hash_of b.header
    → shown f ≡ filtered (prevouts (coins_after empty blocks) b) (last_header blocks) b
    → new ≡ blocks ++ b ∷ [] → fs ≡ filters ++ f ∷ [] → hs ≡ with_first heights hash (length blocks + 1)
    → coins ≡ coins_after empty blocks → after ≡ after_block coins b
    → IsIndexed genesis new fs hs × (after ≡ coins_after empty new)
added_all genesis blocks new filters fs heights hs coins after b f hash h spelled fit named told put filed placed laid is =
    let placed_all : HeightMap = with_first heights hash (length blocks + 1) in
    let one : IsIndexed genesis (blocks ++ b ∷ []) (filters ++ f ∷ []) placed_all =
    added genesis blocks filters heights b f hash h spelled fit named told in
    let two : IsIndexed genesis new (filters ++ f ∷ []) placed_all =
    subst (λ (x : List Block). IsIndexed genesis x (filters ++ f ∷ []) placed_all) (sym put) one in
    let three : IsIndexed genesis new fs placed_all = subst (λ (x : List BlockFilter). IsIndexed genesis new x placed_all) (sym filed) two in (
      subst (λ (x : HeightMap). IsIndexed genesis new fs x) (sym placed) three,
      is ∙ ap (λ (m : CoinMap). after_block m b) laid ∙ sym (ap (coins_after empty) put ∙ coins_more empty blocks b),
    )

-- ---- blocks that are shared from now on

pub share_next : (blocks old new : List Block) (item b : Block) (rest left : List Block) → old ++ rest ≡ blocks
    → rest ≡ item ∷ left → new ≡ old ++ b ∷ [] → b ≡ item
    → new ++ left ≡ blocks
share_next blocks old new item b rest left all next put same =
    ap (λ (l : List Block). l ++ left) put ∙ append_assoc old (b ∷ []) left ∙ ap (λ (x : Block). old ++ x ∷ left) same
    ∙ ap (λ (l : List Block). old ++ l) (sym next) ∙ all

pub share_end : (blocks old rest : List Block) → old ++ rest ≡ blocks → length rest ≡ 0 → old ≡ blocks
share_end blocks old [] all none = sym (append-nil old) ∙ all
share_end blocks old (x ∷ xs) all none = absurd (omega (arith, none))
