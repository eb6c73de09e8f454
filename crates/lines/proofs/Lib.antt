pub mod OneDigit
pub mod Parts
pub mod WellFormed
