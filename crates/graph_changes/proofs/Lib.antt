pub mod KeyLemmas
pub mod RowLemmas
pub mod SizeLemmas
pub mod ReadLemmas
