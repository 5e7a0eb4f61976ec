pub mod Operations
pub mod Forms
pub mod Request
