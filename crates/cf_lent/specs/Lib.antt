pub mod View
pub use Rattle.cf_lent.specs.View.{msg_of}
