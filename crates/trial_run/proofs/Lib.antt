pub mod Counts
pub mod Fields
pub mod Noted
pub mod Probes
pub mod SameFindings
pub mod Steps
pub mod TriedTexts
