pub mod Asking
pub mod Verdicts
pub mod Scanning
pub use Rattle.cf_loading.specs.Asking.{AreRead, ByParts, Whole}
pub use Rattle.cf_loading.specs.Verdicts.{and_then, blocks_verdict, CountsFile, Good, IsJudged, IsOfFile, no_file, proof_verdict, session_verdict, watch_verdict}
