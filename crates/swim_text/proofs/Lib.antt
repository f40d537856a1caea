pub mod Decimals
pub mod Giving
