pub mod ChangingLemmas
pub mod EffectLemmas
pub mod KeyedLemmas
pub mod TakingLemmas
pub mod RowLemmas
