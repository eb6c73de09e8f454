pub mod Reciprocal
