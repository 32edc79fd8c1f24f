pub mod Marks
pub mod Grows
pub mod Holding
pub mod Keeping
pub mod PartTexts
pub mod Refusing
pub mod Serving
pub mod Stepping
