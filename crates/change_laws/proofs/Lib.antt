pub mod Alike
pub mod Boxes
pub mod Terminals
pub mod Walks
