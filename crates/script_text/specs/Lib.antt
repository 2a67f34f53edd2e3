pub mod Fits
pub mod Grammar
pub mod Lines
pub mod Spelling
pub mod Values
pub mod Within
