pub mod Spending
pub mod Touching
pub use Rattle.cf_coins.specs.Spending.{spend_txs}
