pub mod Readings
pub mod Order
pub mod Refusals
pub mod Facts
pub mod Samples
pub mod Stems
