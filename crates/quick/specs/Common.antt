-- The common case of binary64, on patterns. Nothing to believe: these only name the code's own values.
use Rattle.std.specs.Prelude.{ℕ, ◌+◌, ◌*◌, ◌/◌, ◌%◌, ◌^◌, Bool, ◌&&◌, nat_le, nat_lt}
use Rattle.definitions.specs.declared.Kind.{Kind}
use Rattle.definitions.specs.declared.Kind.TheVariants.{Truncated, Nearest}

abbrev pub field_of : ℕ → ℕ
field_of b = b / 2 ^ 52 % 2048

-- the significand of a normal number, its leading one at bit 63
abbrev pub spread_of : ℕ → ℕ
spread_of b = (b % 2 ^ 52 + 2 ^ 52) * 2 ^ 11

-- both normal, and the dividend's field not below the divisor's
abbrev pub common : ℕ → ℕ → Bool
common x y = nat_lt (field_of x) 2047 && nat_lt 0 (field_of y) && nat_le (field_of y) (field_of x)

-- both normal, and the dividend's field below the divisor's: so far that the quotient does not go up
abbrev pub margin_of : Kind → ℕ
margin_of Truncated = 0
margin_of Nearest = 1

abbrev pub kept : Kind → ℕ → ℕ → Bool
kept κ x y = nat_lt 0 (field_of x) && nat_lt (field_of x + margin_of κ) (field_of y) && nat_lt (field_of y) 2047
