pub mod General
pub mod Closed
pub mod Frames
pub mod Fours
pub mod States
pub mod Parts
pub mod Jobs
pub mod Buffers
pub mod Stopped
pub mod Sensor
pub mod Verdicts
pub mod Errors
pub mod Moves
pub mod Noted
pub mod Fills
pub mod Changes
pub mod Returned
pub mod Silent
pub mod Fresh
pub mod Moved
pub mod Whole
pub mod Finish
pub mod Work
pub mod Streams
pub mod WorkJobs
pub mod Ranges
pub mod Counted
pub mod Agree
pub mod Standing
pub mod Sending
pub mod Given
mod OpenSteps
mod Named
mod Stuck
pub mod NeverStuckJobs
mod Kept
mod Resting
