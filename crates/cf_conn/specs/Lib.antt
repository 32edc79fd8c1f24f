pub mod MemoryConn
pub mod Opened
pub mod ReadAll
pub mod SliceSource
pub mod Source
pub mod Steps
pub mod Told
pub mod Window
pub use Rattle.cf_conn.specs.MemoryConn.{BothWays, Writes}
pub use Rattle.cf_conn.specs.Opened.{IsPartRead, IsReadByParts}
pub use Rattle.cf_conn.specs.Source.{is_end, with_front}
pub use Rattle.cf_conn.specs.Told.{ConnTold}
pub use Rattle.cf_conn.specs.Window.{beyond, CountsReads, IsOver, seen}
