pub mod Past
pub mod Turns
pub mod Wanted
pub mod Passed
