pub mod Answers
pub mod Bits
pub mod Code
pub mod Meets
pub use Rattle.cf_golomb.specs.Code.{HasSpelling, set_at, spelling}
pub use Rattle.cf_golomb.specs.Meets.{has, IsAscending}
