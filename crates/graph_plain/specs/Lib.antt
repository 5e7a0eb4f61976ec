pub mod Draft
pub mod Trying
pub mod Taking
