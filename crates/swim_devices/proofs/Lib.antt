pub mod Offered
pub mod Slept
pub mod Streamed
pub mod Summing
