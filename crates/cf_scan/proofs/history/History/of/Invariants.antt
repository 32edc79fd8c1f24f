use Rattle.std.proofs.Common.{◌≡◌, take}
use Rattle.std.specs.Prelude.{fold}
use Rattle.cf_scan.specs.Scan.{unscanned}
use Rattle.cf_scan.specs.Extracts.{after_placed}
use Rattle.cf_scan.proofs.history.History.of.Given as goal

abbrev pub invariant-loop-block : goal.invariant-loop-block
invariant-loop-block l = l.ledger ≡ fold after_placed unscanned (take l.block-index l.blocks)
