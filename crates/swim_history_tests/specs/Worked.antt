pub mod Histories
pub mod Gaps
pub mod Returns
pub mod After
