-- What is told of a quotient is told of the low 32 bits that the code keeps. Assumes nothing.
use mathlib.Core.Path.{◌≡◌}
use Prim.Native.Nat.{ℕ, ◌%◌, ◌^◌}
use lib.Pow.{mod-mod-pow}
use Rattle.definitions.specs.Remainder.{quotient_bits}

pub bits_low : (w : ℕ) → quotient_bits (w % 2 ^ 32) ≡ quotient_bits w
bits_low w = mod-mod-pow w 1 31
