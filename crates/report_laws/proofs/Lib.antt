pub mod LineBounds
pub mod Bounds
pub mod FirmShown
pub mod Laws
