pub mod Endings
pub mod Filing
pub mod Keeping
pub mod Told
