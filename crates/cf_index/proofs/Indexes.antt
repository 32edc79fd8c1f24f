-- What an index keeps, by the definitions.
use Rattle.std.proofs.Common.{◌≡◌, ℕ, Bool, List, [], ◌∷◌, map, length, refl, sym, ◌∙◌, ap, Option, Some, None}
use Rattle.std.specs.Borrow.{Bor}
use Rattle.std.specs.Prelude.{slice_get, option_map, option_copied}
use Rattle.std.specs.Slice.{IsItemAt}
use Rattle.std.specs.FinMap.{empty, get}
use Rattle.std.specs.List.{position}
use Rattle.std.proofs.lemmas.Option.{slice_get-map, slice_get_past, slice_get_read}
use Rattle.cf_bytes.specs.declared.hash.Hash32.{Hash32}
use Rattle.cf_block.specs.declared.header.Header.{Header}
use Rattle.cf_block.specs.declared.tx.Block.{Block}
use Rattle.cf_block.specs.Genesis.{first_block}
use Rattle.cf_block.specs.Header.{block_hash_of, genesis_header}
use Rattle.cf_chain.specs.Coins.{CoinMap, after_block}
use Rattle.cf_chain.specs.Filters.{Filtered, prevouts, filtered, filtered_on, first_filtered, filters_of, filter_at}
use Rattle.cf_chain.specs.Heights.{all_blocks}
use Rattle.cf_headers.specs.Rules.{same}
use Rattle.cf_index.specs.declared.block_filter.BlockFilter.{BlockFilter}
use Rattle.cf_index.specs.Filtering.{shown}
use Rattle.cf_index.specs.Checked.{hashes_of}
use Rattle.cf_index.specs.HeightMap.{HeightMap, AreHeightsOf, first_hash}
use Rattle.cf_index.proofs.Lowest.{place_of}

-- each filter tells its block's hash
abbrev hash_of : Block → List ℕ
hash_of b = block_hash_of b.header

abbrev name_of : Filtered → List ℕ
name_of f = f.block

names_on : (coins : CoinMap) (previous : List ℕ) (blocks : List Block) → map name_of (filtered_on coins previous blocks) ≡ map hash_of blocks
names_on coins previous [] = refl
names_on coins previous (b ∷ bs) = ap (λ (l : List (List ℕ)). block_hash_of b.header ∷ l) (names_on (after_block coins b) (filtered (prevouts coins b) previous b).header bs)

names_of : (blocks : List Block) → map name_of (filters_of blocks) ≡ map hash_of (all_blocks blocks)
names_of blocks = ap (λ (l : List (List ℕ)). block_hash_of first_block.header ∷ l) (names_on empty first_filtered.header blocks)

heads : first_block.header ≡ genesis_header
unfolding first_block
heads = refl

pub placed : (blocks : List Block) (hashes : List Hash32) (heights : HeightMap) → hashes ≡ hashes_of blocks
    → ((hash : Hash32) → get heights hash ≡ position (λ h. same h.0 hash.0) (first_hash ∷ hashes))
    → AreHeightsOf heights blocks
placed blocks hashes heights named is hash =
    let p : Hash32 → Bool = λ h. same h.0 hash.0 in
    is hash ∙ ap (λ (l : List Hash32). position p (first_hash ∷ l)) named
    ∙ ap (λ (h : Header). position p (record { 0 = block_hash_of h } ∷ hashes_of blocks)) (sym heads)
    ∙ place_of (λ (b : Block). record { 0 = block_hash_of b.header }) p (all_blocks blocks)

-- ---- at a height

twice : {A B C : Type 0} (f : A → B) (g : B → C) (o : Option A) → option_map g (option_map f o) ≡ option_map (λ x. g (f x)) o
twice f g None = refl
twice f g (Some x) = refl

filter_there : (blocks : List Block) (filters : List BlockFilter) (height : ℕ) → map shown filters ≡ filters_of blocks
    → option_map shown (slice_get filters height) ≡ filter_at blocks height
filter_there blocks filters height told = sym (slice_get-map shown filters height) ∙ ap (λ (l : List Filtered). slice_get l height) told

item_is : {X : Type 0} (xs : List X) (i : ℕ) (r : Option (Bor X)) → IsItemAt xs i r → option_copied r ≡ slice_get xs i
item_is xs i None h = sym (slice_get_past xs i h.3)
item_is xs i (Some x) h = sym (slice_get_read xs (length xs) i x.now refl h.3.0 h.1)

pub filter_found : (blocks : List Block) (filters : List BlockFilter) (height : ℕ) (r : Option (Bor BlockFilter)) → map shown filters ≡ filters_of blocks
    → IsItemAt filters height r → option_map (λ f. shown f.now) r ≡ filter_at blocks height
filter_found blocks filters height r told is =
    sym (twice (λ (f : Bor BlockFilter). f.now) shown r) ∙ ap (option_map shown) (item_is filters height r is) ∙ filter_there blocks filters height told

hash_there : (blocks : List Block) (height : ℕ) → option_map name_of (filter_at blocks height) ≡ option_map hash_of (slice_get (all_blocks blocks) height)
hash_there blocks height =
    sym (slice_get-map name_of (filters_of blocks) height) ∙ ap (λ (l : List (List ℕ)). slice_get l height) (names_of blocks) ∙ slice_get-map hash_of (all_blocks blocks) height

hash_by : (o : Option Block) (r : Option Hash32) → option_map (λ h. h.0) r ≡ option_map hash_of o → r ≡ option_map (λ b. record { 0 = block_hash_of b.header }) o
hash_by None None e = refl
hash_by None (Some h) e = cc
hash_by (Some b) None e = cc
hash_by (Some b) (Some h) e = let is : h.0 ≡ block_hash_of b.header = cc in λ i. Some (record { 0 = is i })

pub hash_found : (blocks : List Block) (height : ℕ) (r : Option Hash32) → option_map (λ h. h.0) r ≡ option_map (λ f. f.block) (filter_at blocks height)
    → r ≡ option_map (λ b. record { 0 = block_hash_of b.header }) (slice_get (all_blocks blocks) height)
hash_found blocks height r is = hash_by (slice_get (all_blocks blocks) height) r (is ∙ hash_there blocks height)
