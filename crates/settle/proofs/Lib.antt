pub mod OneRun
pub mod Empty
pub mod Making
pub mod Choosing
pub mod Settling
pub mod Finishing
