pub mod Starting
mod Counting
mod Crossing
pub mod Moves
mod Tied
