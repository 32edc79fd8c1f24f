pub mod Ends
pub mod Following
pub mod Leaving
pub mod Recording
pub mod Telling
pub mod Theorem
pub use Rattle.cf_cli_client.specs.Ends.{AreEndsAfter, AreEndsOver}
pub use Rattle.cf_cli_client.specs.Following.{IsReplayedIn, KeptLive, TalliedOn}
pub use Rattle.cf_cli_client.specs.Leaving.{CountsOn, RunsWires}
pub use Rattle.cf_cli_client.specs.Theorem.{IsOfRun, KeptOver, PlaysSession, Tallied, WasOver}
