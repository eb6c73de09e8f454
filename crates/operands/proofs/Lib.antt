pub mod Lead
pub mod Normal
pub mod Cases
