pub mod Sounds
pub mod Weights
pub mod Words
