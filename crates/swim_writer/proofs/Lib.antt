pub mod Documented
pub mod HeldTexts
