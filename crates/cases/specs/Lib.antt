pub mod Digest
pub mod Hex
pub mod Script
