pub mod Making
pub mod Proving
pub mod Reading
