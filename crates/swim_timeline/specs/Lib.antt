pub mod Marks
pub mod Lanes
pub mod Shown
pub mod Spans
pub mod Starts
