pub mod Causes
pub mod Outcomes
