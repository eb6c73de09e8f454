pub mod Aligned
pub mod Cases
pub mod Halves
pub mod Zeros
pub mod OfPatterns
