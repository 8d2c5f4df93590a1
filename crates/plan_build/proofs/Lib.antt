pub mod Keeping
pub mod Parting
