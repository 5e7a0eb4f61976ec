pub mod WalkLemmas
pub mod EachLemmas
pub mod SaysLemmas
pub mod ShapedLemmas
