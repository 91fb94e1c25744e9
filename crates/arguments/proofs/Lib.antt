pub mod Fits
pub mod Numbered
mod Lent
