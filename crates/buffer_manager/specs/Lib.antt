pub mod Managed
pub mod Slots
pub mod Kept
pub mod Streams
pub mod Taking
pub mod Closing
pub mod Resting
