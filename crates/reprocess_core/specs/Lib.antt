pub mod State
pub mod Tickets
pub mod Inputs
pub mod Inside
pub mod Device
pub mod Keys
pub mod Outputs
