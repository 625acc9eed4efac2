pub mod Choose
pub mod Sums
pub mod Lists
pub mod Bytes
pub mod Cut
