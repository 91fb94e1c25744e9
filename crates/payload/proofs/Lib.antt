pub mod Lay
