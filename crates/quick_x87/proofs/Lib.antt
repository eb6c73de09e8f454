pub mod Parts
pub mod Pattern
pub mod Steps
