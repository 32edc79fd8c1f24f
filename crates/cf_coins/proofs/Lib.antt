pub mod CoinMaps
pub mod Maps
pub mod Steps
pub mod Touching
