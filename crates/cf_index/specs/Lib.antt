pub mod Adding
pub mod Checked
pub mod Progress
pub mod Filtering
pub mod Bare
pub mod ByHash
pub mod HeightMap
pub mod Indexed
pub mod Finding
pub mod Committing
pub use Rattle.cf_index.specs.Finding.{first_place, StandsAt}
pub use Rattle.cf_index.specs.Committing.{IsCommitmentOf}
