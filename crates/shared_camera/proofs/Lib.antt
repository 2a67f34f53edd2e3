pub mod Firsts
pub mod IdleRoots
pub mod LentSeats
pub mod Lists
pub mod Making
pub mod Outs
pub mod Turning
