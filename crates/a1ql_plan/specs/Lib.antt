pub mod Depth
pub mod Plan
pub mod Answer
