pub mod Done
pub mod Inputs
pub mod Long
pub mod Meanings
pub mod Sinks
pub mod Starts
pub mod Texts
