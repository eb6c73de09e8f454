pub mod LineLength
pub mod Placed
pub mod Holding
pub mod Appended
pub mod Ended
pub mod Last
pub mod Pieces
