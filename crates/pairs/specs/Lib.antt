pub mod Pair
pub mod Divisions
