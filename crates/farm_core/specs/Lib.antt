pub mod Machine
pub mod Serial
pub mod Decided
pub mod ReadSet
pub mod ReadSets
pub mod Standing
pub mod Farms
pub mod Cores
