pub mod Plain
pub mod Events
pub mod Tracks
pub mod Timelines
