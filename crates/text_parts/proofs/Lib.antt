pub mod Cuts
pub mod Digits
pub mod Joined
pub mod Spelled
pub mod Fronts
pub mod Texts
