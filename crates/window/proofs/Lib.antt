pub mod Lists
pub mod Sums
pub mod Ring
pub mod Checked
pub mod Taken
pub mod Leaving
pub mod Laws
