pub mod Trial
pub mod TrialText
pub mod TriedText
pub mod Underway
