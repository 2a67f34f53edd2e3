pub mod SlotLemmas
pub mod HomeLemmas
pub mod FreshLemmas
pub mod StockLemmas
pub mod PendingLemmas
