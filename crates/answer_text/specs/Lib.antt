pub mod Reply
pub mod Transcript
pub mod Legal
