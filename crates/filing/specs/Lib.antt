pub mod Causes
pub mod Filing
