pub mod Faulty
pub mod FieldValue
pub mod Listed
