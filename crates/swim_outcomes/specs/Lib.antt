pub mod Details
pub mod Explaining
pub mod Outcomes
pub mod Printing
pub mod Told
