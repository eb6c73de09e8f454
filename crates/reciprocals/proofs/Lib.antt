pub mod Found
pub mod Guess
pub mod Quotients
pub mod Upper
