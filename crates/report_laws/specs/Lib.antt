pub mod Laws
pub mod Example
