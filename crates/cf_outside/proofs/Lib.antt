pub mod Bytes
pub mod Lasts
pub mod Readers
pub mod Tickers
