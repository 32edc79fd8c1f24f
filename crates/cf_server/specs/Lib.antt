pub mod Replies
pub mod Plans
pub mod Outcomes
pub mod Serving
pub mod Taking
pub mod Turns
pub use Rattle.cf_server.specs.Replies.{AreRepliesOf, IsReplyOf, message_of, messages_of}
pub use Rattle.cf_server.specs.Serving.{text_of}
pub use Rattle.cf_server.specs.Taking.{CountsWrites, Idles, Sends}
