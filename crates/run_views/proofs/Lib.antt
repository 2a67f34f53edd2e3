mod Fronts
pub mod Lists
pub mod Moves
pub mod Pieces
mod Telling
