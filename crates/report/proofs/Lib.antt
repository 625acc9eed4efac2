pub mod Fronts
pub mod Violations
pub mod FirmLines
pub mod Posting
pub mod Answers
