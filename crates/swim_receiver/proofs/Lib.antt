pub mod Datagrams
pub mod Learning
pub mod Receiving
pub mod Rejoined
pub mod Same
pub mod Showing
