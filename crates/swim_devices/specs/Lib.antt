pub mod Addresses
pub mod Offers
pub mod Pacing
pub mod Places
pub mod Streams
pub mod Trails
