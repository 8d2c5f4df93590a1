pub mod Hulls
pub mod Trees
