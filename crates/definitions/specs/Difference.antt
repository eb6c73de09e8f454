-- The difference of two values, rounded once, ties to even. Definitions only.
use Rattle.std.specs.Prelude.{ℕ, ◌-◌, ◌*◌, ◌^◌, Bool, not, cond, ◌&&◌, eqb, pos, nat_abs, ◌-ℤ◌}
use Rattle.std.specs.Bool.{beq}
use Rattle.std.specs.Int.Signed.{lt_z}
use Rattle.std.specs.Float.Ieee.{size}
use Rattle.definitions.specs.Class.{Value, Class, unsupported, nan, infinite, finite, value_of}
use Rattle.definitions.specs.Format.{Format, class_of, pattern_of, exponent_of, house}
use Rattle.definitions.specs.Round.{round}

-- [11.9] x - y, exact; where nothing is left it is -0 only for -0 less +0
unfoldable pub exact_difference : Value → Value → Value
exact_difference x y =
    let d = value_of x -ℤ value_of y in
    record { negative = cond (eqb (nat_abs d) 0) (x.negative && not y.negative) (lt_z d (pos 0)); count = nat_abs d }

-- a count rounded once to its p leading digits, ties to even; one of at most p digits is kept
unfoldable pub rounded_to : ℕ → ℕ → ℕ
unfolding round
rounded_to p n = let e = size n - p in (round n e).quotient * 2 ^ e

-- [11.9] an exponent above the bias gives an infinity
unfoldable pub limited : Format → Bool → ℕ → Class
limited f s n = cond (lt_z (pos f.bias) (exponent_of f n)) (infinite s) (finite (record { negative = s; count = n }))

-- [11.9] the difference of two values
unfoldable pub difference_value : Format → Value → Value → Class
unfolding exact_difference rounded_to limited
difference_value f x y = let d = exact_difference x y in limited f d.negative (rounded_to f.precision d.count)

-- and of any two classes, as IEEE 754 has it; an infinity less one of the same sign is a NaN. A NaN is the house NaN
unfoldable pub difference_class : Format → Class → Class → Class
unfolding difference_value
difference_class f unsupported y = house f
difference_class f (nan n t) y = house f
difference_class f (infinite s) unsupported = house f
difference_class f (infinite s) (nan n t) = house f
difference_class f (infinite s) (infinite t) = cond (beq s t) (house f) (infinite s)
difference_class f (infinite s) (finite y) = infinite s
difference_class f (finite x) unsupported = house f
difference_class f (finite x) (nan n t) = house f
difference_class f (finite x) (infinite t) = infinite (not t)
difference_class f (finite x) (finite y) = difference_value f x y

-- the pattern x less the pattern y
unfoldable pub difference : Format → ℕ → ℕ → ℕ
unfolding difference_class
difference f x y = pattern_of f (difference_class f (class_of f x) (class_of f y))
