mod Begins
mod Books
mod Finishes
mod Gives
mod Heard
pub mod Holds
mod Lines
mod Opened
mod Sent
mod Shown
mod Takes
mod WriterFaults
