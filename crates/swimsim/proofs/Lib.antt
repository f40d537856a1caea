pub mod CommandLine
pub mod Sighted
pub mod Worded
