pub mod Handing
pub mod Spelled
pub mod Making
pub mod Changing
pub mod Apart
