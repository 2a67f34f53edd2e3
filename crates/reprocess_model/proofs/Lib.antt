pub mod Found
pub mod Facts
pub mod Held
pub mod Back
pub mod Calls
pub mod Stuck
pub mod Bound
pub mod Ends
