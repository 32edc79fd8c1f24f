pub mod Asking
pub mod Ends
pub mod Records
pub mod Runs
pub mod Stays
pub mod Tallies
pub mod Told
pub mod Wires
