pub mod Courses
pub mod FilterLength
pub mod Fitting
pub mod Lists
pub mod Steps
pub mod Streams
pub mod Telling
pub mod Texts
pub mod Walking
mod Turns
