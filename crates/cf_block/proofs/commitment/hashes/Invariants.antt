use Rattle.std.proofs.Common.{take}
use Rattle.cf_block.specs.Commitment.{AreTxids}
use Rattle.cf_block.proofs.commitment.hashes.Given as goal

abbrev pub invariant-loop-tx : goal.invariant-loop-tx
invariant-loop-tx l = record { made : AreTxids l.hashes.items (take l.tx-index l.txs) }
