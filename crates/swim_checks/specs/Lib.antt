pub mod CheckedFiles
pub mod Checking
pub mod Configured
pub mod Keys
pub mod Texts
