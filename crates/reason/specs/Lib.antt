pub mod Beside
pub mod Reason
pub mod Parts
pub mod Taken
pub mod Laws
pub mod Example
