pub mod Branches
pub mod Guides
pub mod Overlaps
pub mod Taking
