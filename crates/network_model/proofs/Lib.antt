pub mod ClassCount
pub mod CoverLaws
pub mod EveryHeader
mod Examples
pub mod HeaderOrder
pub mod LastRule
pub mod Numbers
pub mod PlanLaws
pub mod RewriteLaws
pub mod SomeClass
pub mod SomeTable
pub mod TableLaws
mod WorkedNetwork
mod WorkedPlan
