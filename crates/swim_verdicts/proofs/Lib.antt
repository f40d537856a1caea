pub mod Digits
pub mod Feeds
pub mod FirstSigns
pub mod ShellReading
pub mod Starving
