pub mod Check
pub mod Good
pub mod Samples
pub mod Example
