pub mod LogKept
pub mod Book
pub mod Over
pub mod Gives
pub mod Lines
pub mod Writers
pub mod Finish
pub mod Shown
pub mod Threads
pub mod Stays
pub use Rattle.cf_hub.specs.Book.{keeps_of, told_of}
pub use Rattle.cf_hub.specs.Gives.{is_gone_of, piece_in, tick_in}
pub use Rattle.cf_hub.specs.Writers.{faults_in}
pub use Rattle.cf_hub.specs.Finish.{begun, pulse_in}
