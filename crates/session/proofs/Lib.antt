pub mod Plays
pub mod Shows
