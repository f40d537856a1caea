pub mod Splits
pub mod Firsts
pub mod Follows
