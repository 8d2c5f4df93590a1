pub mod Parts
pub mod PlanText
