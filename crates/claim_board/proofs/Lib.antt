pub mod Sums
pub mod Steps
pub mod Counts
pub mod Closing
