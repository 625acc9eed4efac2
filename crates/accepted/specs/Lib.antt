pub mod Accepted
pub mod Laws
pub mod Samples
pub mod Example
