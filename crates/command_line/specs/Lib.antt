pub mod Table
pub mod Judging
