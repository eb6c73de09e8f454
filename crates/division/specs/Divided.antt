-- What the engine answers. Definitions only.
use Rattle.std.specs.Prelude.{ℕ, ◌*◌, ◌/◌, ◌%◌, ◌^◌}
use Rattle.reciprocals.specs.declared.Quotient.{Quotient}
use Rattle.division.specs.declared.Divided.{Divided}

-- a × 2 ^ places by b: the remainder, and the low 32 bits of the quotient
abbrev pub divided_of : ℕ → ℕ → ℕ → Divided
divided_of a b places = record { remainder = a * 2 ^ places % b; quotient = a * 2 ^ places / b % 2 ^ 32 }

-- a whole quotient, with its low 32 bits
abbrev pub low_of : Quotient → Divided
low_of q = record { remainder = q.remainder; quotient = q.quotient % 2 ^ 32 }
