pub mod Blocks
pub mod Told
pub mod Judgings
pub mod HeldLaws
pub mod JudgedLaws
pub mod Putting
pub mod Found
