pub mod Numbered
pub mod Precedence
pub mod PrefixLaws
pub mod RootLists
pub mod RuleLists
pub mod RulesByNumber
pub mod WalkStands
