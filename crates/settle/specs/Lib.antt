pub mod Stepping
pub mod Sending
