pub mod Asking
pub mod Inverses
pub mod Items
pub mod Letters
pub mod Moves
pub mod Pieces
pub mod Places
pub mod Words
