pub mod Month
pub mod Parts
pub mod Firm
