pub mod OneMore
pub mod Settings
pub mod Standings
pub mod Told
pub mod Unjudged
