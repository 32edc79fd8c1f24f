use Rattle.std.proofs.Common.{◌≡◌, ◌++◌, take}
use Rattle.std.specs.List.{flat_map}
use Rattle.cf_block.specs.Tx.{tx_spelling}
use Rattle.cf_make.proofs.witnessing.put_others.Given as goal

abbrev pub invariant-loop-tx : goal.invariant-loop-tx
invariant-loop-tx l = record { written : l.out.items ≡ l.fn.out.items ++ flat_map tx_spelling (take l.tx-index l.txs) }
