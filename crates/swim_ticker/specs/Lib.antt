pub mod Knocking
pub mod Ticking
pub mod Ticks
