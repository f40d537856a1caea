pub mod Evidence
pub mod Trail
pub mod Confirming
pub mod Verdicts
pub mod Following
pub mod Sequences
