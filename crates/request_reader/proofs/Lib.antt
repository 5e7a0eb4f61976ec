pub mod GraphLemmas
pub mod EachLemmas
pub mod PlainLemmas
