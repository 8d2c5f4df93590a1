pub mod Listing
pub mod PassingBy
pub mod Reaching
pub mod Recalling
pub mod Splitting
