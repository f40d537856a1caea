pub mod DaemonEnds
pub mod DaemonLives
pub mod Done
pub mod Explained
pub mod Kept
pub mod Lines
pub mod Noticed
pub mod Reloading
