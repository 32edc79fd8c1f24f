pub mod Causes
pub mod Checks
pub mod Holds
pub mod Made
pub mod Proof
pub mod Steps
pub mod Tree
pub mod Walk
