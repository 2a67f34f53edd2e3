pub mod Pictures
pub mod Parts
pub mod Moves
pub mod After
pub mod Facts
pub mod Outs
