pub mod Waiting
pub mod Due
