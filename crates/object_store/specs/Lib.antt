pub mod Stored
pub mod MemStore
