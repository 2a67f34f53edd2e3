pub mod MissingLists
pub mod Parts
pub mod Taken
mod Telling
pub mod Told
pub mod Written
