pub mod BranchSteps
pub mod BranchWalks
pub mod Expanding
pub mod Faults
pub mod Growing
pub mod GrownOut
pub mod Joining
pub mod Levels
pub mod NotGrown
mod PermittedSets
mod Rooted
pub mod Searching
pub mod Taking
pub mod ZippedLists
