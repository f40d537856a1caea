pub mod Filed
pub mod Files
pub mod Recording
pub mod Reports
pub mod Transcripts
pub mod Watched
