pub mod Tests
pub mod Size
pub mod Digits
pub mod Common
pub mod Signed
pub mod Shift
