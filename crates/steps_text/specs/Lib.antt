pub mod EventText
pub mod Reading
