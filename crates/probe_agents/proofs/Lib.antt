pub mod Answered
pub mod Fields
pub mod Kept
pub mod Moves
pub mod Takes
pub mod Waits
