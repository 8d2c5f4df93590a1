pub mod Failing
pub mod Pieces
pub mod Written
pub mod Given
pub mod Slots
