pub mod FenceLemmas
pub mod HomeLemmas
pub mod Kept
pub mod TargetLemmas
pub mod RowLemmas
