pub mod Standing
pub use Rattle.cf_network.specs.Standing.{HasThreads}
