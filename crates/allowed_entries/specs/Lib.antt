pub mod Known
pub mod Entries
pub mod Readings
pub mod Told
