pub mod StreamLemmas
pub mod EndingLemmas
pub mod ClapLemmas
pub mod WordLemmas
pub mod RunLemmas
pub mod StepsLemmas
pub mod TableLemmas
