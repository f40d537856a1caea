pub mod Hearings
pub mod Lines
pub mod Objects
pub mod ReadBack
pub mod Watching
