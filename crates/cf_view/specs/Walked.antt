-- machine: what a walk over lent transactions has found so far.
use Rattle.std.specs.Prelude.{◌≡◌, ◌++◌, Bool, List, map}
use Rattle.std.specs.List.{list_any}
use Rattle.cf_bytes.specs.declared.hash.Hash32.{Hash32}
use Rattle.cf_block.specs.declared.tx.Tx.{Tx}
use Rattle.cf_block.specs.Tx.{tx_spelling}
use Rattle.cf_block.specs.Commitment.{AreTxids, has_64}

-- of the transactions the first were walked over: their hashes, and whether one of them has 64 bytes
pub record IsWalked (txs left : List Tx) (ids : List Hash32) (long : Bool) : Type 0 where
  pub front : List Tx
  pub joined : txs ≡ front ++ left
  pub hashes : AreTxids ids front
  pub has : long ≡ list_any has_64 (map tx_spelling front)
