pub mod State
pub mod Calls
pub mod Log
pub mod Law
