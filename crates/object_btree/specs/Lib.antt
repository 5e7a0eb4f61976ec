pub mod Changes
pub mod Intervals
pub mod Levels
pub mod Remains
pub mod Steps
