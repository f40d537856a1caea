pub mod Buckets
pub mod Fences
pub mod Histories
pub mod Places
