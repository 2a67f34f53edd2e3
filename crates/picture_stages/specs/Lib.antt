pub mod Cells
pub mod Keys
pub mod Line
pub mod Told
