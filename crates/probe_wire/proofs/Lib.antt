pub mod Bytes
pub mod Carrying
pub mod Fields
pub mod Reading
