pub mod Divided
pub mod Divisions
