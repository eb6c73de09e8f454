pub mod Refusing
pub mod Handed
pub mod Folded
pub mod Written
