pub mod Findings
pub mod Follow
pub mod Outcomes
