pub mod Cell
pub mod Entry
pub mod Parts
