pub mod Settling
pub mod Hearing
pub mod Starting
pub mod Listing
pub mod Asking
pub mod Counting
pub mod Finding
pub mod Changing
