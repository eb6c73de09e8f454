pub mod Header
pub mod Opened
