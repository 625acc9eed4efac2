pub mod Codes
pub mod Marks
pub mod Bills
pub mod Lighter
pub mod Laws
