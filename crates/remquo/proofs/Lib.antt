pub mod OfOperands
