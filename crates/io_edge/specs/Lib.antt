pub mod Ends
pub mod Faults
pub mod States
pub mod Reading
pub mod Pieces
