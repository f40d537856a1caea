pub mod Documents
pub mod HeldTexts
