pub mod AskedWords
pub mod OutputLemmas
pub mod OwnDesks
pub mod RefusedWords
pub mod SessionReading
pub mod SessionRuns
pub mod SessionServed
