-- How many divisions by b the engine makes. The making of b's reciprocal is one. Definitions only.
use Rattle.std.specs.Prelude.{ℕ, ◌+◌, ◌-◌, ◌%◌, ◌^◌, Bool, cond, ◌&&◌, ◌==◌, nat_lt}
use Rattle.std.specs.Float.Ieee.{size}

-- 2 ^ e modulo b: one for each binary digit of e below the upper six
abbrev pub squarings_of : ℕ → ℕ
squarings_of e = size e - 6

-- the turns: one for the places beyond a multiple of 64, which may be none, and one for the last 64; from 128 places on, the squarings
-- for those between, and one to multiply by their power
unfoldable pub turns_of : ℕ → ℕ
turns_of places = cond (nat_lt places 64) 1 (cond (nat_lt places 128) 2 (3 + squarings_of (places - places % 64 - 64)))

-- few places, and eleven spare bits in both
abbrev pub near_of : ℕ → ℕ → ℕ → Bool
near_of a b places = nat_lt places 64 && a % 2 ^ 11 == 0 && b % 2 ^ 11 == 0

-- a × 2 ^ places by b: one where b ends in so many zeros; near, the reciprocal and two digits; else the reciprocal and the turns
unfoldable pub divisions_of : ℕ → ℕ → ℕ → ℕ
divisions_of a b places = cond (b % 2 ^ places == 0) 1 (cond (near_of a b places) 3 (1 + turns_of places))
