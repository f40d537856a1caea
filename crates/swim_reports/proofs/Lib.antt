pub mod Booking
pub mod Noticed
