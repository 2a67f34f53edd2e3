pub mod Few
pub mod Handles
pub mod Many
pub mod Rooms
