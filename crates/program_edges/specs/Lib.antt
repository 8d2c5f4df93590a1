pub mod Arguments
pub mod Input
pub mod StatusLines
pub mod Telling
