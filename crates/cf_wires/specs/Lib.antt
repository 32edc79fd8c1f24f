pub mod Log
pub mod Wires
pub mod Dials
pub mod Memory
pub mod Session
pub use Rattle.cf_wires.specs.Log.{deliveries, is_real, longer, tally_of, tell, Tells, Told, told_finished, was_closed}
pub use Rattle.cf_wires.specs.Wires.{HasCause}
pub use Rattle.cf_wires.specs.Memory.{failing_of, finished_of, keeps_of, log_of, script_of, told_of}
pub use Rattle.cf_wires.specs.Session.{session_text}
