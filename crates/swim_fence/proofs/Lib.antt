pub mod Following
pub mod Listing
pub mod OwnEvents
pub mod Indexing
pub mod Passing
pub mod Refusals
pub mod Same
pub mod Spans
