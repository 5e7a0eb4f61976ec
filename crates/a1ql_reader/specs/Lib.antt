pub mod Places
pub mod Walk
pub mod Shapes
pub mod Names
pub mod Values
pub mod Pattern
