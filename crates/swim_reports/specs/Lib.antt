pub mod Booked
pub mod Chronicled
pub mod Figures
pub mod Folders
pub mod Totals
