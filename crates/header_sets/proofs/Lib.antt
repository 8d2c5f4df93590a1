pub mod Halving
pub mod Narrowing
pub mod Nearby
pub mod Pieces
pub mod Searching
