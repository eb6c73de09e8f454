pub mod ByDivisor
pub mod OfOperands
pub mod OfPatterns
