pub mod Made
pub mod Mined
pub mod Records
pub mod Streamed
pub mod Tipping
pub use Rattle.cf_make.specs.Made.{IsExtension, seed_limit}
pub use Rattle.cf_make.specs.Records.{made_records_of}
