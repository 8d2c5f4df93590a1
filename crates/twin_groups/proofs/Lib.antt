pub mod Copies
pub mod Joins
pub mod Openings
pub mod Permutations
pub mod Runs
pub mod Splits
