pub mod Comparing
pub mod InForce
pub mod Reloaded
pub mod Rereading
