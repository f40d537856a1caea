pub mod Streaming
pub mod Reading
pub mod Told
pub mod Entries
pub mod Over
pub mod Turning
pub mod Rebuilding
