pub mod Asking
pub mod Doing
pub mod Ends
pub mod Handed
pub mod Performing
pub mod Plays
pub mod Records
pub mod Stays
