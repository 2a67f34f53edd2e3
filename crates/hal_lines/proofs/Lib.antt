pub mod Fronts
pub mod Names
pub mod Hexadecimal
pub mod HexadecimalAgain
pub mod AgainValues
pub mod AgainLines
mod Both
