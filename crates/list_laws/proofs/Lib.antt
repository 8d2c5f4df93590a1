pub mod Members
pub mod Orders
pub mod Pairs
pub mod Places
pub mod SortedLists
pub mod Tests
