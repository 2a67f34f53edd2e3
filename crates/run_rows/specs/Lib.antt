pub mod Entries
pub mod Moves
pub mod Changes
pub mod Kept
pub mod StuckLaws
