pub mod Allowed
pub mod Explained
pub mod Explaining
pub mod Length
pub mod Missing
