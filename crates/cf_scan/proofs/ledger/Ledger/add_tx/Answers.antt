use Rattle.std.proofs.Common.{arith}
use Rattle.std.proofs.lemmas.Grind.{common_steps}
use Rattle.cf_scan.specs.Extracts.{after_extract}
use Rattle.cf_scan.specs.Scan.{after_change, watched_after, entry_of, touches}
use Rattle.cf_scan.proofs.ledger.Ledger.add_tx.Goals as goal

pub returns-in_ok-push : goal.returns-in_ok-push
unfolding after_extract after_change watched_after entry_of touches
returns-in_ok-push c = grind (arith, common_steps)

pub returns-else-not-is_empty : goal.returns-else-not-is_empty
unfolding after_extract after_change watched_after entry_of touches
returns-else-not-is_empty c = grind (arith, common_steps)
