pub mod Indexed
pub mod Search
pub mod Spaces
