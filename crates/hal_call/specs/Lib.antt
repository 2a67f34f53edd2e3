pub mod Judging
pub mod Fences
pub mod Standing
pub mod Printed
pub mod Shown
