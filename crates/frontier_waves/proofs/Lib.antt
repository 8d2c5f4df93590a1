pub mod Drawing
pub mod Picks
pub mod Placing
pub mod ReadyPlaces
pub mod TwinSearch
pub mod Touching
pub mod WaveEnds
pub mod WaveSteps
