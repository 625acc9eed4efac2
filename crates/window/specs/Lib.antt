pub mod Window
pub mod Parts
pub mod Laws
pub mod Example
