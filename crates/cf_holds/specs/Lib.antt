pub mod Due
pub mod HeldTests
pub mod Known
