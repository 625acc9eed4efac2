pub mod Numbers
pub mod Turns
pub mod Good
pub mod Found
pub mod Given
