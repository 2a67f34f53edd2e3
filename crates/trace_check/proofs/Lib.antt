mod Accepted
pub mod Dark
mod Digests
pub mod Either
pub mod Holding
mod Judged
mod MissingLemmas
mod OneVerdict
pub mod Prefixes
pub mod Rows
pub mod Shown
