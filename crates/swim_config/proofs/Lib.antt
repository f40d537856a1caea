pub mod CauseLines
pub mod HiddenDigits
pub mod KeyViews
pub mod LaterSettings
pub mod LeftOut
pub mod Views
pub mod Wholes
