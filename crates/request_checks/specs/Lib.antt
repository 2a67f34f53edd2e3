pub mod Refused
pub mod Plan
