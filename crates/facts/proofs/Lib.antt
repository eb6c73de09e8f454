pub mod Choosing
pub mod ByFields
