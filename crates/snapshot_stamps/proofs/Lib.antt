pub mod Sums
pub mod Counts
pub mod Steps
pub mod Closing
pub mod Seating
