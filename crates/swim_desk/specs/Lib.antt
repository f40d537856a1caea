pub mod Connected
pub mod Controlling
pub mod Desk
pub mod Doors
pub mod Ending
pub mod Given
