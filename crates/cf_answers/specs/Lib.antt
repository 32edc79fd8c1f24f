pub mod Codes
pub mod Statuses
pub mod Topics
pub mod Writing
pub use Rattle.cf_answers.specs.Statuses.{has_run, is_over, was_refused, was_unbegun}
pub use Rattle.cf_answers.specs.Topics.{page_for, page_named}
pub use Rattle.cf_answers.specs.Writing.{CountsOut, IsOfText, IsWritten, named_line}
