-- A scan that was told is written.
use Rattle.std.proofs.Common.{◌≡◌, subst, ℕ, List, Option, Result, Ok, sym}
use Rattle.cf_block.specs.declared.tx.Block.{Block}
use Rattle.cf_walk.specs.declared.cause.BadBlock.{BadBlock}
use Rattle.cf_walk.specs.Files.{blocks_at}
use Rattle.cf_input.specs.WatchFile.{watch_of}
use Rattle.cf_input.specs.declared.watch_file.WatchFileFault.{WatchFileFault}
use Rattle.cf_answers.specs.declared.status.Status.{Status}
use Rattle.cf_loading.specs.Scanning.{IsScanOf}
use Rattle.cf_answers.specs.Writing.{IsWritten}
use Rattle.cf_offline.specs.Reading.{Scans}

-- the text of a scan is written
pub scans_so : (status : Status) (before after : Option (List ℕ)) (w bytes text : List ℕ) (scripts : List (List ℕ)) → watch_of w ≡ Ok scripts → IsScanOf bytes scripts text
    → IsWritten status before after text → Scans status before after (watch_of w) (blocks_at bytes)
scans_so status before after w bytes text scripts is scan written =
    subst (λ (r : Result (List (List ℕ)) WatchFileFault). Scans status before after r (blocks_at bytes)) (sym is)
    (subst (λ (r : Result (List Block) BadBlock). Scans status before after (Ok scripts) r) (sym scan.read.1)
    (subst (λ (t : List ℕ). IsWritten status before after t) scan.told written))
