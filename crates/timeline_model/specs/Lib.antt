pub mod Lines
pub mod Seats
pub mod Drawings
pub mod Walks
pub mod Timelines
pub mod TraceLines
pub mod Charts
