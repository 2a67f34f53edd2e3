pub mod Reduced
pub mod Below
pub mod Room
pub mod Places
pub mod Ready
pub mod Yuv
pub mod Finds
pub mod Listed
mod Remembered
