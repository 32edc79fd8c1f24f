pub mod Held
pub mod Keeping
pub mod Growing
pub mod Serving
pub mod Standing
pub mod Service
pub mod GrowingService
