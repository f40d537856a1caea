pub mod Backlogs
pub mod Files
pub mod OldFiles
pub mod Verdicts
pub mod Worked
