pub mod Book
pub mod Post
