pub mod Few
pub mod Bright
pub mod Least
pub mod Halves
pub mod Found
pub mod Steps
pub mod Scripts
pub mod Capturing
