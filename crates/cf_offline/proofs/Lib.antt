pub mod Asking
pub mod FilterTexts
pub mod ProofTexts
pub mod Scans
