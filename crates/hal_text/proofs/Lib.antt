pub mod Again
pub mod Drafts
mod Places
pub mod Told
