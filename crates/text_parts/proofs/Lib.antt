pub mod LineWords
pub mod Cuts
