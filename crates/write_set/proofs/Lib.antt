pub mod Lists
pub mod Keyed
