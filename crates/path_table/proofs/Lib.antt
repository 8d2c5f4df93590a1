pub mod Among
pub mod JoinedEntries
pub mod Ordered
pub mod PairSets
