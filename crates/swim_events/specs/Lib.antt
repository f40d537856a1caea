pub mod Texts
pub mod Watching
pub mod Watchers
pub mod Watched
pub mod Guests
pub mod Telling
pub mod Worked
