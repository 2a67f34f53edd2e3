pub mod Commands
pub mod Fronts
pub mod Steps
pub mod Telling
pub mod TraceTelling
pub mod Valid
