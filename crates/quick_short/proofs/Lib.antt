pub mod Fields
pub mod Formats
pub mod Pattern
