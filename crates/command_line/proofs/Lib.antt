pub mod Places
pub mod GoodPairs
pub mod BadLines
pub mod CommandWords
pub mod Tables
