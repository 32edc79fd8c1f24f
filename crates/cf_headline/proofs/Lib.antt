pub mod Again
pub mod Parts
pub mod Strings
pub mod Others
pub mod Timely
pub mod Serving
pub mod Sends
pub mod Worked
