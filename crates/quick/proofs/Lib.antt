pub mod Below
pub mod Fields
pub mod Magnitude
pub mod Normals
pub mod Operands
pub mod Pattern
pub mod Scaled
