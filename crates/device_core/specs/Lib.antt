pub mod Held
pub mod Kept
pub mod Steps
pub mod Stored
pub mod Unpacked
pub mod View
