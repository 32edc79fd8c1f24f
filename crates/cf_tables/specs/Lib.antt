pub mod Tables
pub mod Extracts
pub mod Judged
pub mod Wanting
pub mod Held
pub mod Tests
pub mod Outputs
pub mod Trials
pub mod Known
pub mod Claiming
pub use Rattle.cf_tables.specs.Tables.{IsSameTable, placed_by, with_block, with_blocks}
pub use Rattle.cf_tables.specs.Extracts.{table_in}
pub use Rattle.cf_tables.specs.Judged.{AreKeptInPart, MoreVerdicts, verdicts_in}
pub use Rattle.cf_tables.specs.Wanting.{AreClaimed, IsDone, IsKindAbove, IsToFetch, IsUnjudged}
pub use Rattle.cf_tables.specs.Held.{CountsBlocks, CountsOutputs, CountsVerdicts}
pub use Rattle.cf_tables.specs.Tests.{IsSameTold, told_in}
pub use Rattle.cf_tables.specs.Outputs.{lacks_kept, Paid, put_outputs}
pub use Rattle.cf_tables.specs.Trials.{IsSameTrials, judged_if, tested_if, TrialsGo, with_found}
pub use Rattle.cf_tables.specs.Known.{ExtractTable, TestResults}
pub use Rattle.cf_tables.specs.Claiming.{AddsClaims, ForgetsClaims, IsSameTables}
