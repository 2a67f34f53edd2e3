pub mod Answers
pub mod Records
pub mod Room
pub mod Calls
pub mod Configuring
