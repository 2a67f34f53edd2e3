pub mod Bad
pub mod Growth
mod Texts
mod Walk
mod WordTexts
mod Words
