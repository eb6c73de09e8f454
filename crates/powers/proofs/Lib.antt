pub mod Powers
pub mod Scaled
