pub mod Causes
pub mod Values
pub mod Lines
pub mod Reader
