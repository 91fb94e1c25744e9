pub mod Shown
pub mod Sum
