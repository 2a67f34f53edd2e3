pub mod Begun
pub mod Grammar
pub mod Lines
pub mod Reprocess
