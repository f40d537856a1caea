pub mod Checked
pub mod Explained
pub mod Keys
