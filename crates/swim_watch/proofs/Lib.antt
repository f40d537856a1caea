pub mod NoFloats
pub mod ReadBack
pub mod Showing
