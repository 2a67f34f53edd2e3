pub mod Finished
pub mod Running
