pub mod Causes
pub mod Values
pub mod Lines
pub mod Grammar
pub mod Reader
