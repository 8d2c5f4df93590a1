pub mod Among
pub mod Belonging
pub mod Following
pub mod Growth
pub mod Permitted
pub mod Roots
pub mod Searched
