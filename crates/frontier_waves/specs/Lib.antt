pub mod Growths
pub mod Starts
pub mod Waves
