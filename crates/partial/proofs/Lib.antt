pub mod Cut
pub mod Pairs
pub mod Kept
