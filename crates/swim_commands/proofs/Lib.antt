pub mod Beside
pub mod ControlLines
pub mod Exchanges
pub mod Given
pub mod Lines
pub mod LineTexts
