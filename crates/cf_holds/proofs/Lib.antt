pub mod Tables
pub mod TableGrows
pub mod Kept
pub mod VerdictsGrow
pub mod KeptOpens
pub mod KeptTests
pub mod KeptAims
pub mod KeptGiven
