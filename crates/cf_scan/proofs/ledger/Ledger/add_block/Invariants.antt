use Rattle.std.proofs.Common.{◌≡◌, take}
use Rattle.std.specs.Prelude.{fold}
use Rattle.cf_scan.specs.Extracts.{after_extract}
use Rattle.cf_scan.proofs.ledger.Ledger.add_block.Given as goal

abbrev pub invariant-loop-tx : goal.invariant-loop-tx
invariant-loop-tx l = l.self ≡ fold (after_extract l.height) l.fn.self (take l.tx-index l.extract)
