pub mod Policies
pub mod PolicyLines
pub mod Narrowing
pub mod Outcomes
