pub mod Countdowns
pub mod Pages
pub mod Texts
