pub mod Layout
pub mod Lines
pub mod Statement
pub mod Parts
pub mod Sheet
