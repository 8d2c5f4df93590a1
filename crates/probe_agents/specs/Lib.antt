pub mod Firing
pub mod Seeing
pub mod Sharing
pub mod Slots
