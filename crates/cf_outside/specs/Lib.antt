pub mod Pieces
pub mod Ticks
pub use Rattle.cf_outside.specs.Pieces.{is_last, is_open, Reads}
pub use Rattle.cf_outside.specs.Ticks.{Ticked}
