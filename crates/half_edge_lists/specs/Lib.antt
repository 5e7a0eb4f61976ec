pub mod Changes
pub mod Forms
pub mod Steps
pub mod Together
