pub mod Boxes
pub mod Following
pub mod LineShapes
pub mod Narrowed
pub mod Rest
pub mod Said
pub mod Verdict
