pub mod Cutting
pub mod Unpacking
