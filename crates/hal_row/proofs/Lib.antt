pub mod Given
pub mod Raised
