pub mod Address
pub mod Alphabet
pub mod Bits
pub mod Checksum
pub mod Faults
pub mod Scripts
pub mod Steps
pub mod Witness
