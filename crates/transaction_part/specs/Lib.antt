pub mod Running
pub mod Stories
pub mod Part
pub mod Locking
