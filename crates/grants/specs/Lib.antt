pub mod Grants
pub mod Month
pub mod Parts
pub mod Example
