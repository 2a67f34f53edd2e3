pub mod Asked
pub mod Fills
pub mod Made
pub mod Rules
pub mod Since
pub mod Steps
pub mod Times
