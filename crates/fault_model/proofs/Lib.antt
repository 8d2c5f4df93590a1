pub mod ByNumber
pub mod Different
mod Examples
pub mod Explained
pub mod Followed
pub mod Listed
pub mod Telling
pub mod Told
