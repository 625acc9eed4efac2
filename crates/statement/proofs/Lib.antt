pub mod Shown
pub mod Answers
