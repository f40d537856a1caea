pub mod Called
pub mod Fullness
pub mod Noting
pub mod Outcomes
pub mod Posting
pub mod Sent
pub mod Started
pub mod Turning
