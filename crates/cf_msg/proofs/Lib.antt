pub mod Codecs
pub mod Fields
pub mod FilterRows
pub mod Rows
pub mod Sizes
pub mod Table
pub mod Writes
