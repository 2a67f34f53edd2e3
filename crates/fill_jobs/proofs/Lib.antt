mod Filled
pub mod HeldLemmas
pub mod PlaceLemmas
