pub mod Playing
pub mod Three
pub mod Demo
pub use Rattle.cf_demo.specs.Demo.{IsDemo, IsSession, IsUnmade, IsUnplayed}
