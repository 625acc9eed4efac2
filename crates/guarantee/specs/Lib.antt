pub mod Demand3
pub mod DayOff
pub mod EachLine
pub mod OwnMark
pub mod Example
pub mod DayOffExample
pub mod Sets
