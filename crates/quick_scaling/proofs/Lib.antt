pub mod Moved
pub mod Normal
pub mod Read
