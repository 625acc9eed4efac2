pub mod Checked
pub mod Places
pub mod Taken
