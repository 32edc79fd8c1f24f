pub mod Places
pub mod Answering
pub mod Bounds
pub mod Growing
pub mod Tops
