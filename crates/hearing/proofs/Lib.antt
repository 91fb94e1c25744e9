pub mod Laws
pub mod Brought
