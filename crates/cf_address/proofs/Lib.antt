pub mod AddressLemmas
pub mod AlphabetLemmas
pub mod BitLemmas
pub mod ChecksumLemmas
pub mod ScriptLemmas
