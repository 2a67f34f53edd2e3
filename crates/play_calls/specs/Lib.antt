pub mod Converting
pub mod Generated
pub mod Judging
pub mod Says
pub mod Words
