pub mod Hits
pub mod Shared
pub mod Spreads
pub mod Twins
pub mod Weighed
