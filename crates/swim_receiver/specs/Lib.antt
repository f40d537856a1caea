pub mod Datagrams
pub mod Happenings
pub mod Receiving
pub mod Rejoining
pub mod Showing
