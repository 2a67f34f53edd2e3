pub mod Astray
pub mod LaterRows
pub mod Lists
