pub mod Carrying
pub mod Packet
pub mod Reading
