pub mod FirstWords
pub mod Lines
pub mod Digits
pub mod DecimalWords
pub mod NumberLists
