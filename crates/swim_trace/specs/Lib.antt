pub mod Acts
pub mod Index
pub mod Legs
pub mod Fates
pub mod Conclusions
pub mod Beats
pub mod Presence
