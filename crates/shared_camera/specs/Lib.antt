pub mod Cameras
pub mod Choices
pub mod JobsOut
pub mod Moves
pub mod Turns
