pub mod Ends
pub mod Read
pub mod Texts
