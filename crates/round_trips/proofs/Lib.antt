pub mod RoundTrip
pub mod Taken
