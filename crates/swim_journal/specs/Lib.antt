pub mod Comments
pub mod Headings
pub mod Journals
pub mod Lines
pub mod Replays
pub mod Seatless
