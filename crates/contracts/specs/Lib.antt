pub mod Listing
pub mod Counted
