pub mod Lookup
pub mod InForce
pub mod Codes
