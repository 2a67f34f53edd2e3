pub mod Finishing
pub mod Telling
