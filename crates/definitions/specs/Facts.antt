-- What a call tells of its operands: the NaN that it is refused for, and whether one of them is denormal. Definitions only.
use Rattle.std.specs.Prelude.{ℕ, ◌+◌, ◌/◌, ◌%◌, Bool, not, cond, ◌&&◌, ◌||◌, ltb, eqb}
use Rattle.definitions.specs.Class.{Class, unsupported, nan, infinite, finite}
use Rattle.definitions.specs.Format.{Format, top_field, leading, field_weight, pattern_of, house_nan}

-- ---- which NaN

-- [2.11] of two operands: of a NaN and anything else the NaN; of two NaNs the one with the larger significand, and the dividend's where they
-- are equal. Where neither is one, it is none
abbrev pub nan_against : Bool → ℕ → Class → Class
nan_against m s unsupported = nan m s
nan_against m s (nan n t) = cond (ltb s t) (nan n t) (nan m s)
nan_against m s (infinite n) = nan m s
nan_against m s (finite w) = nan m s

abbrev pub chosen : Class → Class → Class
chosen unsupported y = y
chosen (nan m s) y = nan_against m s y
chosen (infinite n) y = y
chosen (finite v) y = y

-- [2.12] the weight of the digit that tells a quiet NaN, the first behind the leading one; and a significand with it, all other digits kept
abbrev pub quiet_weight : Format → ℕ
quiet_weight f = leading f / 2

abbrev pub quieted : Format → ℕ → ℕ
quieted f s = cond (eqb (s / quiet_weight f % 2) 1) s (s + quiet_weight f)

-- [2.12] a NaN made quiet, as a pattern; of what is no NaN, the house NaN
abbrev pub quiet_pattern : Format → Class → ℕ
quiet_pattern f unsupported = house_nan f
quiet_pattern f (nan n s) = pattern_of f (nan n (quieted f s))
quiet_pattern f (infinite n) = house_nan f
quiet_pattern f (finite v) = house_nan f

-- [2.11, 2.12] the NaN that the refusal 3 of x and y speaks of. An operation on one operand hands it over twice
unfoldable pub nan_of : Format → Class → Class → ℕ
unfolding pattern_of
nan_of f x y = quiet_pattern f (chosen x y)

-- [7.1] what a refusal of the number n returns as its value: here, and nowhere else in the definitions
unfoldable pub refused_value : Format → ℕ → Class → Class → ℕ
unfolding nan_of
refused_value f n x y = cond (eqb n 3) (nan_of f x y) (house_nan f)

-- ---- denormal operands

-- [2.13] the pattern of a denormal: the exponent field 0, and not a zero. With an explicit leading digit, whatever that is
unfoldable pub denormal : Format → ℕ → Bool
denormal f b = eqb (b / field_weight f % (top_field f + 1)) 0 && not (eqb (b % field_weight f) 0)

-- [7.7] what a call of the number n tells of its operands as they are given, the patterns x and y. An operation on one operand hands it over
-- twice
abbrev pub told_denormal : Format → ℕ → ℕ → ℕ → Bool
told_denormal f n x y = not (eqb n 6) && (denormal f x || denormal f y)
