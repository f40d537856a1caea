pub mod Recording
pub mod Mirrors
pub mod OneRun
pub mod Faults
