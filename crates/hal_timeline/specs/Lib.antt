pub mod Rows
pub mod Walks
pub mod Pieces
pub mod Groups
pub mod Passes
pub mod Notes
pub mod Charts
