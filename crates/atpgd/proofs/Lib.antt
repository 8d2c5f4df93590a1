pub mod AskedWords
pub mod Hosts
pub mod Opened
pub mod Passes
pub mod Works
pub mod Zipped
