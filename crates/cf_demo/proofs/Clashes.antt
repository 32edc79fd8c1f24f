-- A made chain is good where no strings clash.
use Rattle.std.proofs.Common.{◌≡◌, inl, inr, ◌⊎◌, ℕ, ◌+◌, ◌^◌, ◌≤◌, ◌<◌, List, [], ◌∷◌, ◌++◌, length, refl, sym, ◌∙◌, ap, arith}
use Rattle.std.specs.List.{flat_map}
use Rattle.cf_block.specs.declared.tx.Block.{Block}
use Rattle.cf_block.specs.Commitment.{spelled_txs}
use Rattle.cf_block.specs.Merkle.{Among, NoClash, nodes, txids}
use Rattle.cf_chain.specs.Good.{IsGoodChain}
use Rattle.cf_headers.specs.Chain.{height_limit, IsIn, NoHashClash}
use Rattle.cf_make.specs.Made.{IsExtension, seed_limit}
use Rattle.cf_make.proofs.MadeLaws.{chain_is_good}
use Rattle.cf_wires.specs.Log.{Log}
use Rattle.cf_sync.specs.Sync.{IsHashed, strings_of_block}
use Rattle.cf_demo.specs.Demo.{IsRefusedFor, IsUnmade, IsUnplayed, IsApart}
use Rattle.cf_demo.specs.Three.{AreTwoChains}
use Rattle.cf_demo.specs.declared.unplayed.Unplayed.{Unplayed}
use Rattle.cf_demo.specs.declared.unplayed.Unplayed.TheVariants.{NoNonce, Clash, NoMemory}

among_either : (xs ys : List (List ℕ)) (s : List ℕ) → Among (xs ++ ys) s → Among xs s ⊎ Among ys s
among_either [] ys s h = inr h
among_either (x ∷ xs) ys s (inl is) = inl (inl is)
among_either (x ∷ xs) ys s (inr later) = elim (among_either xs ys s later) [
  | inl here ↦ inl (inr here)
  | inr there ↦ inr there
]

among_in : (xs ys : List (List ℕ)) (s : List ℕ) → Among xs s → IsIn s (xs ++ ys)
among_in [] ys s h = absurd h
among_in (x ∷ xs) ys s (inl is) = inl (sym is)
among_in (x ∷ xs) ys s (inr later) = inr (among_in xs ys s later)

-- a string is one of a block's transactions
record IsOf (blocks : List Block) (s : List ℕ) : Type 0 where
  block : Block
  there : IsIn block blocks
  spelled : Among (spelled_txs block) s

of_block : (blocks : List Block) (s : List ℕ) → Among (flat_map spelled_txs blocks) s → IsOf blocks s
of_block [] s h = absurd h
of_block (b ∷ blocks) s h = elim (among_either (spelled_txs b) (flat_map spelled_txs blocks) s h) [
  | inl here ↦ record { block = b; there = inl refl; spelled = here }
  | inr later ↦ (let w = of_block blocks s later in record { block = w.block; there = inr w.there; spelled = w.spelled })
]

is_hashed : (log : Log) (blocks : List Block) (s : List ℕ) → Among (flat_map spelled_txs blocks) s → IsHashed log blocks s
is_hashed log blocks s h =
    let w = of_block blocks s h in
    let own : IsIn s (strings_of_block w.block) = inr (among_in (spelled_txs w.block) (nodes (txids (spelled_txs w.block))) s w.spelled) in
    inr (inr (inl (w.block, w.there, own)))

no_clash : (log : Log) (blocks : List Block) → NoHashClash (IsHashed log blocks) → NoClash (flat_map spelled_txs blocks)
no_clash log blocks clash = λ a b x y same. clash.apart a b (is_hashed log blocks a x) (is_hashed log blocks b y) same

pub made_good : (seed n : ℕ) (chain : List Block) (log : Log) → seed < seed_limit → n ≤ height_limit → IsExtension [] seed n chain → NoHashClash (IsHashed log chain) → IsGoodChain chain
made_good seed n chain log small low made clash = chain_is_good seed n chain small low made (no_clash log chain clash)

pub made_length : (seed n : ℕ) (chain : List Block) → IsExtension [] seed n chain → length chain ≡ n
made_length seed n chain made = ap (λ (bs : List Block). length bs) made.joined ∙ made.count

pub two_made : (seed n : ℕ) (chain longer : List Block) (log : Log) → seed < 2 ^ 32 → n + 2 ≤ height_limit → IsExtension [] seed n chain → IsExtension [] (seed + 1) (n + 2) longer → IsApart chain longer log
    → AreTwoChains chain longer log
two_made seed n chain longer log small low made made_longer apart =
    let short = made_length seed n chain made in
    let long = made_length (seed + 1) (n + 2) longer made_longer in
    record {
      good = made_good seed n chain log (omega (arith, small)) (omega (arith, low)) made apart.0;
      good_longer = made_good (seed + 1) (n + 2) longer log (omega (arith, small)) (omega (arith, low)) made_longer apart.1;
      more = omega (arith, short, long);
      clash = apart.0;
      clash_longer = apart.1;
    }

-- where a peer on it is refused, two of its strings clash
pub refused_unmade : (seed n : ℕ) (chain : List Block) (why : Unplayed) → seed < seed_limit → n ≤ height_limit → IsExtension [] seed n chain → IsRefusedFor chain why → IsUnmade seed n why
refused_unmade seed n chain (NoNonce at) small low made refused = absurd refused
refused_unmade seed n chain Clash small low made refused = (chain, made, λ apart. refused (chain_is_good seed n chain small low made apart))
refused_unmade seed n chain NoMemory small low made refused = tt

pub demo_unplayed : (seed n : ℕ) (chain longer : List Block) (why : Unplayed) → seed < 2 ^ 32 → n + 2 ≤ height_limit → IsExtension [] seed n chain → IsExtension [] (seed + 1) (n + 2) longer
    → IsRefusedFor chain why ⊎ IsRefusedFor longer why → IsUnplayed seed n why
demo_unplayed seed n chain longer why small low made made_longer (inl refused) = inl (refused_unmade seed n chain why (omega (arith, small)) (omega (arith, low)) made refused)
demo_unplayed seed n chain longer why small low made made_longer (inr refused) = inr ((chain, made), refused_unmade (seed + 1) (n + 2) longer why (omega (arith, small)) (omega (arith, low)) made_longer refused)
