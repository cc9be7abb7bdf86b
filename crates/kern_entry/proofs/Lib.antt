pub mod WalkLow
pub mod WalkSteps
pub mod Walk
pub mod WorkArea
pub mod Saving
pub mod Choosing
pub mod Lookup
pub mod Routines
pub mod Leaving
pub mod Placed
pub mod Returning
pub mod Stages
pub mod Whole
pub mod Joins
pub mod TasksHeld
pub mod ScanSteps
pub mod Scanning
pub mod TaskForms
pub mod ElementsTaken
pub mod LinesDone
pub mod TasksDone
mod FrameCalls
mod Pushing
mod GoingBack
mod TakingUp
pub mod FramesServe
mod Delivers
mod ChainsGathered
mod LinesGathered
mod Interrupting
pub mod InterruptArrives
pub mod TasksServe
