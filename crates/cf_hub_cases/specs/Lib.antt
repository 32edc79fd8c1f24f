pub mod Standing
pub mod Stays
pub mod Telling
