pub mod Signed
pub mod Limit
