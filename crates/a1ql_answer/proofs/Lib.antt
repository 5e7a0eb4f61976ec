pub mod AnyLemmas
pub mod OrderLemmas
pub mod MapLemmas
pub mod LevelLemmas
pub mod HopLemmas
pub mod RootLemmas
pub mod RowLemmas
pub mod FilmLemmas
