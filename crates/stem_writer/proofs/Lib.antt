pub mod Stores
pub mod Points
pub mod Whole
