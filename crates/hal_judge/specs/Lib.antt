pub mod Judged
pub mod Meant
pub mod Onto
