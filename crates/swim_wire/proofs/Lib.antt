pub mod Addresses
pub mod RoundTrip
