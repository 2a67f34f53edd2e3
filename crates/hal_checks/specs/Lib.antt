pub mod Buffers
pub mod Meant
pub mod Packs
pub mod Streams
pub mod Targets
