pub mod Choices
pub mod Faults
pub mod Places
pub mod PlanValue
pub mod Spans
