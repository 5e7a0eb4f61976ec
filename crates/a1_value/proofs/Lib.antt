pub mod KeyOrder
pub mod Escapes
pub mod OfKind
pub mod ValueLemmas
pub mod KeyLemmas
