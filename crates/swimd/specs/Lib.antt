pub mod Commands
pub mod Daemon
pub mod DaemonEnds
pub mod DaemonLives
pub mod Reloading
pub mod Served
