pub mod LentLemmas
pub mod WalkLemmas
