pub mod Draws
pub mod DrawLaws
pub mod Orders
pub mod Places
pub mod Rounds
pub mod Script
pub mod Faults
