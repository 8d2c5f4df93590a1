pub mod Claims
pub mod Fair
pub mod Fields
