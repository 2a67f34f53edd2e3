pub mod Added
pub mod Again
pub mod AgainLines
pub mod AgainValues
pub mod Fitting
pub mod Targets
pub mod Valid
pub mod ValidLines
