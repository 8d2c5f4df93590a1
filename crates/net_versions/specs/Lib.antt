pub mod Changes
pub mod VersionsValue
