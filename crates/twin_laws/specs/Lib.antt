pub mod Shared
pub mod Twins
