-- The filters of blocks, with their headers one after the other.
use Rattle.std.proofs.Common.{◌≡◌, ℕ, ◌+◌, ◌<◌, ◌≤◌, List, [], ◌∷◌, ◌++◌, map, length, take, refl, sym, ◌∙◌, ap, subst, arith}
use Rattle.std.proofs.lemmas.List.{append-nil, drop_all}
use Rattle.std.specs.FinMap.{empty}
use Rattle.cf_block.specs.declared.tx.Block.{Block}
use Rattle.cf_chain.specs.Coins.{CoinMap, coins_after}
use Rattle.cf_chain.specs.Filters.{filtered, filtered_on, filters_of}
use Rattle.cf_index.specs.declared.block_filter.BareFilter.{BareFilter}
use Rattle.cf_index.specs.declared.block_filter.BlockFilter.{BlockFilter}
use Rattle.cf_index.specs.Bare.{IsBare, IsBareAt, AreBuilt}
use Rattle.cf_index.specs.Checked.{prevouts_in}
use Rattle.cf_index.specs.Filtering.{shown, AreFirst}
use Rattle.cf_index.proofs.Gathering.{next_at, none_at}
use Rattle.cf_index.proofs.Walking.{took_at, first_more}

-- the next filter has its header
pub head_next : (filters new : List BlockFilter) (f : BlockFilter) (previous : List ℕ) (blocks : List Block) (spent : List (List (List ℕ))) (count : ℕ) (rest : List BareFilter) (y z : BareFilter) (ys : List BareFilter)
    → rest ≡ y ∷ ys → y ≡ z → ((scripts : List (List ℕ)) (b : Block) → IsBare scripts b z → shown f ≡ filtered scripts previous b) → new ≡ filters ++ f ∷ []
    → spent ≡ prevouts_in empty blocks → count ≤ length blocks
    → AreBuilt blocks spent count filters previous rest → AreBuilt blocks spent count new f.header.0 ys
head_next filters new f previous blocks spent count rest y z ys e w headed put taken within built =
    let n : ℕ = built.0 in
    let r = next_at (IsBareAt blocks spent) n count rest y z ys e w built.3 in
    let b = r.1.0 in
    let scripts = r.1.1 in
    let below : n < length blocks = omega (arith, r.0, within) in
    let took = took_at blocks spent n b b scripts scripts below taken r.1.2 r.1.3 in
    let more : n + 1 ≤ count = omega (arith, r.0) in
    (n + 1, more, first_more filters new f previous blocks n (n + 1) b scripts below r.1.2 took (headed scripts b r.1.4) put refl built.2, r.2)

-- all of them have
pub head_end : (blocks : List Block) (spent : List (List (List ℕ))) (count : ℕ) (filters : List BlockFilter) (last : List ℕ) (rest : List BareFilter) → length rest ≡ 0
    → AreBuilt blocks spent count filters last rest → AreFirst blocks count last filters
head_end blocks spent count filters last rest none built =
    let over = none_at (IsBareAt blocks spent) built.0 count rest none built.3 in
    let there : built.0 ≡ count = omega (arith, over, built.1) in
    let P : ℕ → Type 0 = λ n. AreFirst blocks n last filters in
    subst P there built.2

-- and they are those of the whole chain
pub head_all : (blocks : List Block) (count : ℕ) (filters new : List BlockFilter) (last : List ℕ) → length blocks ≤ count → new ≡ filters
    → AreFirst blocks count last filters → map shown new ≡ filters_of blocks
head_all blocks count filters new last past is first =
    let coins : CoinMap = coins_after empty (take count blocks) in
    ap (map shown) is ∙ sym (append-nil (map shown filters)) ∙ ap (λ (l : List Block). map shown filters ++ filtered_on coins last l) (sym (drop_all count blocks past)) ∙ first
