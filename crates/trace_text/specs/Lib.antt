pub mod Spelling
pub mod Summary
pub mod Texts
