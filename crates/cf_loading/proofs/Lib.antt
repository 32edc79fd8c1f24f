pub mod Asking
pub mod Counting
pub mod Opening
pub mod Scans
