pub mod Retelling
