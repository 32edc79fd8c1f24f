pub mod Names
pub mod Run
pub mod States
pub mod Versions
pub mod Passing
pub mod Texts
pub mod Whole
pub use Rattle.cf_run.specs.Names.{names_in}
pub use Rattle.cf_run.specs.Run.{HasDialled, HasFailed, kept_lines}
pub use Rattle.cf_run.specs.Versions.{HasGreeting, IsOfGreeting}
pub use Rattle.cf_run.specs.Whole.{AreNewWires, EndsWithin, IsOutcome, LeavesWires}
