pub mod Hulls
pub mod Looking
pub mod Placing
pub mod Trees
