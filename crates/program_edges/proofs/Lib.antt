pub mod TakenWords
