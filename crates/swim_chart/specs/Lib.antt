pub mod Roles
pub mod Spots
pub mod Arrows
pub mod Notes
pub mod Frame
pub mod Charts
pub mod Worked
