pub mod Opening
pub mod Differences
