pub mod HistoryLemmas
pub mod LegalLemmas
