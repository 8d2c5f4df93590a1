pub mod Adding
pub mod Generated
pub mod Places
pub mod Rules
pub mod Words
