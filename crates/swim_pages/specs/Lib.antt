pub mod Doubts
pub mod HostNames
pub mod Searches
pub mod Shelves
pub mod Streams
