pub mod Crews
pub mod Draws
pub mod Ends
pub mod Life
pub mod Lives
pub mod Views
pub mod Working
