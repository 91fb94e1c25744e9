pub mod Chain
pub mod Every
