pub mod Halved
pub mod Kept
pub mod Shown
