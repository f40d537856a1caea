pub mod Knocked
pub mod Living
pub mod Looked
pub mod Ticked
