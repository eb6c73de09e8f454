pub mod WrittenScale
pub mod WrittenSplit
