pub mod OnePlace
pub mod OfNormals
