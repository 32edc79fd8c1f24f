-- machine: what is kept of a chain that was checked.
use Rattle.std.specs.Prelude.{◌≡◌, ℕ, List, [], ◌∷◌, map}
use Rattle.std.specs.FinMap.{empty}
use Rattle.cf_bytes.specs.declared.hash.Hash32.{Hash32}
use Rattle.cf_block.specs.declared.tx.Block.{Block}
use Rattle.cf_block.specs.Header.{block_hash_of}
use Rattle.cf_block.specs.Tx.{txid_of}
use Rattle.cf_block.specs.Views.{bytes_of}
use Rattle.cf_chain.specs.Coins.{CoinMap, after_block}
use Rattle.cf_chain.specs.Filters.{prevouts}
use Rattle.cf_chain.specs.Good.{IsGoodChain}

-- the hashes of blocks
abbrev pub hashes_of : List Block → List Hash32
hashes_of blocks = map (λ b. record { 0 = block_hash_of b.header }) blocks

-- the scripts that each block's inputs spend, where these coins stand before the first
abbrev pub prevouts_in : CoinMap → List Block → List (List (List ℕ))
prevouts_in coins [] = []
prevouts_in coins (b ∷ bs) = prevouts coins b ∷ prevouts_in (after_block coins b) bs

-- a good chain's blocks, their hashes, those of their transactions, and the scripts that each spends
pub record IsChecked (blocks : List Block) (hashes : List Hash32) (txids : List (List Hash32)) (spent : List (List (List ℕ))) : Type 0 where
  pub good : IsGoodChain blocks
  pub named : hashes ≡ hashes_of blocks
  pub hashed : map bytes_of txids ≡ map (λ b. map txid_of b.txs) blocks
  pub taken : spent ≡ prevouts_in empty blocks
