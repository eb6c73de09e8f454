pub mod Trimmed
pub mod Stands
