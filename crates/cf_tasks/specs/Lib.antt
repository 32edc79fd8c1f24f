pub mod Starting
pub mod Queue
pub mod Handing
pub mod Waiting
pub use Rattle.cf_tasks.specs.Starting.{ArePut, IsPut}
pub use Rattle.cf_tasks.specs.Queue.{entry, IsStart, of, receiver, with_got}
pub use Rattle.cf_tasks.specs.Waiting.{HasFailed, HasGiven}
