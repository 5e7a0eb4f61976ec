pub mod Flags
pub mod Occupancy
pub mod Regions
