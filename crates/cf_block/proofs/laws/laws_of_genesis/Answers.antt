use Rattle.cf_block.proofs.GenesisLaws.{tx_is, hash_is, block_is, genesis_committed}
use Rattle.cf_block.proofs.laws.laws_of_genesis.Goals as goal

pub returns-clause-block : goal.returns-clause-block
returns-clause-block c = block_is

pub returns-clause-tx : goal.returns-clause-tx
returns-clause-tx c = tx_is

pub returns-clause-hash : goal.returns-clause-hash
returns-clause-hash c = hash_is

pub returns-clause-committed : goal.returns-clause-committed
returns-clause-committed c = genesis_committed
