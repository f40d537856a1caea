pub mod Each
pub mod Fenced
pub mod Guarded
pub mod Thrown
