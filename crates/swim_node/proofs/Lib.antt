pub mod Adding
pub mod Counting
pub mod Drawing
pub mod Filing
pub mod Prefixes
pub mod Publishing
pub mod Reading
pub mod Telling
