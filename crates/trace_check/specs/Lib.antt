pub mod Drawing
pub mod Held
pub mod Released
