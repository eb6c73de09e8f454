pub mod Front
pub mod Passed
pub mod Whole
