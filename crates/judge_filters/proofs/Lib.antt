pub mod PastLemmas
pub mod FrameLemmas
pub mod QueueLemmas
pub mod RepeatLemmas
