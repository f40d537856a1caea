pub mod Fullness
pub mod Lived
pub mod Living
pub mod Recorded
pub mod Seen
pub mod Uncalled
