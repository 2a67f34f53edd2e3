pub mod InOrder
pub mod Accepted
