pub mod Around
pub mod Captures
pub mod Inside
pub mod Requests
pub mod Room
pub mod Views
