pub mod Answer
pub mod Args
