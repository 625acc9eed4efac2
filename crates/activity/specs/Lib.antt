pub mod Activity
pub mod Correction
pub mod Laws
