pub mod Standing
pub mod Reading
pub mod Packing
pub mod Places
