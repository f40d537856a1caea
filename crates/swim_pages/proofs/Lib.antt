pub mod Doubting
pub mod OwnNames
pub mod Verdicts
