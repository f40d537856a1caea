pub mod Files
pub mod Keeping
pub mod Rest
pub mod Told
pub mod Written
