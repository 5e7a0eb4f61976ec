pub mod ScriptLemmas
pub mod NamingLemmas
