pub mod Oldest
pub mod Within
pub mod Starting
pub mod Periods
pub mod Timed
