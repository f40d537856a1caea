pub mod Options
pub mod Reasons
pub mod Differences
pub mod Sequences
pub mod Sightings
pub mod Telling
