pub mod Divisions
pub mod Link
pub mod Settled
pub mod Below
pub mod TwoOperands
