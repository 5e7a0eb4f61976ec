pub mod AnyLemmas
pub mod ComparingLemmas
pub mod KeyedLemmas
pub mod MapLemmas
pub mod PartLemmas
pub mod PlacesLemmas
pub mod SeenLemmas
