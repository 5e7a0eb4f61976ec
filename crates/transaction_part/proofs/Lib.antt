pub mod Lists
pub mod Going
pub mod Telling
pub mod Viewing
pub mod LockSteps
pub mod Places
pub mod Checks
pub mod Endings
