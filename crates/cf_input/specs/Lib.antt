pub mod Addresses
pub mod Commands
pub mod LineLaws
pub mod Lines
pub mod Name
pub mod Number
pub mod SessionFile
pub mod Sessions
pub mod WatchFile
pub mod Words
pub mod ProofFile
pub use Rattle.cf_input.specs.SessionFile.{session_of}
pub use Rattle.cf_input.specs.Sessions.{AreNamed, script_in}
pub use Rattle.cf_input.specs.WatchFile.{watch_of}
pub use Rattle.cf_input.specs.Words.{command_of, HasFewPeers, is_help_word, is_version_word}
pub use Rattle.cf_input.specs.ProofFile.{proof_file_of}
