pub mod Common
pub mod Settled
