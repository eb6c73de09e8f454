pub mod Joined
pub mod RoundTrip
