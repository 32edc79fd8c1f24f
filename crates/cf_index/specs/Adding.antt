-- machine: one block more on a chain that is told.
use Rattle.std.specs.Prelude.{◌≡◌, ℕ, List, [], ◌∷◌, Option, Some, None}
use Rattle.std.specs.FinMap.{empty}
use Rattle.cf_block.specs.declared.tx.Block.{Block}
use Rattle.cf_headers.specs.Chain.{past_of}
use Rattle.cf_chain.specs.Coins.{CoinMap, coins_after}
use Rattle.cf_chain.specs.Filters.{Filtered, filtered_on, first_filtered}
use Rattle.cf_chain.specs.Good.{headers_of}

-- the filter header of the last of these, or this one where there is none
abbrev pub last_of : List ℕ → List Filtered → List ℕ
last_of previous [] = previous
last_of previous (f ∷ fs) = last_of f.header fs

-- that of the highest block
abbrev pub last_header : List Block → List ℕ
last_header blocks = last_of first_filtered.header (filtered_on empty first_filtered.header blocks)

-- coins that were found are the chain's
abbrev pub AreTheirs : Option CoinMap → List Block → Type 0
AreTheirs None blocks = Unit {0}
AreTheirs (Some coins) blocks = coins ≡ coins_after empty blocks

-- what the next block is judged by: the times that count for it, and the coins, once they were found
pub record Awaits (past : List ℕ) (coins : Option CoinMap) (blocks : List Block) : Type 0 where
  pub timed : past ≡ past_of (headers_of blocks)
  pub found : AreTheirs coins blocks
