pub mod Fences
pub mod Parked
pub mod Home
pub mod Shelf
pub mod Blocks
pub mod Opened
pub mod Slots
pub mod Pending
