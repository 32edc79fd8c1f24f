pub mod Records
pub mod Files
pub mod Progress
pub mod Judging
pub mod Striding
pub use Rattle.cf_walk.specs.Records.{max_record, record_spelling, record_with}
pub use Rattle.cf_walk.specs.Files.{Answers, blocks_at, blocks_from, cause_before_coins, cause_on, IfBad, in_coins, in_commitment, IsBadFile, IsGoodFile, most_blocks, next_at, StopsAt}
pub use Rattle.cf_walk.specs.Progress.{FindsCause, HasRecord, IsRecordsOf}
pub use Rattle.cf_walk.specs.Judging.{StandsOn}
pub use Rattle.cf_walk.specs.Striding.{CountsLoad, ReadsAs}
