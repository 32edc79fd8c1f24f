-- machine: what a block's header stands for.
use Rattle.std.specs.Prelude.{◌≡◌, List, None, Some, Result, Ok, Err}
use Rattle.cf_bytes.specs.declared.hash.Hash32.{Hash32}
use Rattle.cf_block.specs.declared.tx.Block.{Block}
use Rattle.cf_block.specs.Commitment.{AreTxids, commit_fault}
use Rattle.cf_walk.specs.declared.cause.RecordCause.{RecordCause}
use Rattle.cf_walk.specs.Files.{in_commitment}
use Rattle.cf_index.specs.declared.commitment.Commitment.{Commitment}

-- the hashes of a block's transactions, for which its header stands, or why it doesn't
abbrev pub Commits : Block → Result (List Hash32) RecordCause → Type 0
Commits b (Ok ids) = (in_commitment (commit_fault b) ≡ None) × AreTxids ids b.txs
Commits b (Err cause) = in_commitment (commit_fault b) ≡ Some cause

-- a commitment that was found is this block's
abbrev pub IsCommitmentOf : Block → Commitment → Type 0
IsCommitmentOf b commitment = Commits b commitment.txids
