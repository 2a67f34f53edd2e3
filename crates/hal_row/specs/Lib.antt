pub mod Asked
pub mod Given
pub mod Raised
pub mod Settled
