pub mod Courses
pub mod CourseEnds
pub mod Given
pub mod Heard
pub mod Known
pub mod Steps
pub mod LineTurns
