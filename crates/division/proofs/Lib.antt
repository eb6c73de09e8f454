pub mod Count
pub mod Digits
pub mod Places
pub mod Squares
pub mod Zeros
