pub mod ListBytes
pub mod Session
