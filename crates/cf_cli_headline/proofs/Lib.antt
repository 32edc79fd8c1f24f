pub mod Greeted
pub mod Telling
