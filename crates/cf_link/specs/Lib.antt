pub mod Links
pub mod Lines
pub mod Tasks
pub mod Serving
pub use Rattle.cf_link.specs.Links.{link_now}
pub use Rattle.cf_link.specs.Serving.{Counts}
