pub mod OverLemmas
pub mod PictureLemmas
pub mod Decided
pub mod WrittenLemmas
pub mod Fours
pub mod RefusalLemmas
