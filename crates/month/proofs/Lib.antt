pub mod Exempt
pub mod Waivers
pub mod Answers
pub mod Loops
pub mod Held
