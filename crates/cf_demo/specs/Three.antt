-- statement: three peers in memory, of whom one is honest.
use Rattle.std.specs.Prelude.{◌≡◌, ◌<◌, List, length}
use Rattle.cf_block.specs.declared.tx.Block.{Block}
use Rattle.cf_chain.specs.Good.{IsGoodChain}
use Rattle.cf_headers.specs.Chain.{NoHashClash}
use Rattle.cf_wires.specs.Log.{Log, tally_of}
use Rattle.cf_played.specs.declared.kind.Way.TheVariants.{Omits}
use Rattle.cf_sync.specs.Sync.{IsHashed}
use Rattle.cf_demo.specs.Playing.{PlaysHonest, PlaysSilent, PlaysAlike}

-- a chain, and a longer one, both good; and no two of the strings that were hashed have one hash
pub record AreTwoChains (chain longer : List Block) (log : Log) : Type 0 where
  pub good : IsGoodChain chain
  pub good_longer : IsGoodChain longer
  pub more : length chain < length longer
  pub clash : NoHashClash (IsHashed log chain)
  pub clash_longer : NoHashClash (IsHashed log longer)

-- three were dialled: the first answers as the machine of the chain does but for what it tells of filters, the second is silent on the longer one, and the third honest on the first one
pub record AreThree (chain longer : List Block) (log : Log) : Type 0 where
  pub dials : (tally_of log).dials ≡ 3
  pub first : ∥ PlaysAlike Omits chain log 1 ∥₁
  pub second : PlaysSilent longer log 2
  pub third : PlaysHonest chain log 3
