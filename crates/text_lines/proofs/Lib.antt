pub mod Joined
pub mod Spaced
