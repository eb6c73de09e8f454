-- The laws speak of crates/definitions, Agrees of the toolchain's IEEE 754 besides, and Sticky and RoundedTo of a cut of their own.
pub mod OddCut
