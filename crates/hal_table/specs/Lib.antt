pub mod Index
pub mod Devices
pub mod State
