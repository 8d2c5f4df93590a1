pub mod Histories
pub mod Shared
pub mod Rule
pub mod Passes
pub mod Fields
pub mod Ids
