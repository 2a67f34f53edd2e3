pub mod GainLemmas
pub mod KeyLemmas
pub mod PartLemmas
pub mod PlaneLemmas
pub mod RawLemmas
pub mod RowLemmas
