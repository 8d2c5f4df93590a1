pub mod Copies
pub mod Splits
