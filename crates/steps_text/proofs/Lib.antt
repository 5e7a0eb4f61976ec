pub mod WordLemmas
pub mod ContentLemmas
pub mod FormLemmas
pub mod EventLemmas
pub mod LineLemmas
pub mod OneReading
