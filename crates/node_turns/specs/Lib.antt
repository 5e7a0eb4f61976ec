pub mod Standing
pub mod Turned
