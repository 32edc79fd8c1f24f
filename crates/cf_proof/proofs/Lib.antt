pub mod Again
pub mod Complete
pub mod Levels
pub mod MakeLemmas
pub mod Passing
pub mod Sound
pub mod TreeLemmas
pub mod WalkLemmas
