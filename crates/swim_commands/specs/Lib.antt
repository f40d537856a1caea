pub mod Ages
pub mod Answers
pub mod Asking
pub mod Forms
pub mod Watched
pub mod Words
pub mod Worked
