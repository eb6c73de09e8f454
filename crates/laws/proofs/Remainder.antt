-- The remainder of two patterns, by what they stand for: of every format. Assumes nothing.
use mathlib.Core.Path.{◌≡◌}
use mathlib.Core.Bool.{Bool, true, false, cond}
use Prim.Native.Nat.{ℕ, ◌%◌, ◌<◌}
use native.Mathlib.Nat.{mod-lt}
use lib.Dec.{lit<}
use lib.Pow.{mod-mod-pow}
use Rattle.digits.proofs.Tests.{not_zero}
use Rattle.definitions.specs.Class.{Value, Class, finite, infinite}
use Rattle.definitions.specs.Format.{Format, class_of, pattern_of, ordinary_of}
use Rattle.definitions.specs.Numbers.{first, accepted, dividing}
use Rattle.definitions.specs.declared.Kind.{Kind}
use Rattle.definitions.specs.Division.{by, finish, dividend_of, divisor_of}
use Rattle.definitions.specs.Remainder.{quotient_modulus, quotient_bits, shown, remainder_of, remainder}

-- [3.1, 3.2, 3.6] of two finite operands, the divisor not zero
pub remainder_is : (f : Format) (κ : Kind) (x y : ℕ) (v w : Value) → class_of f x ≡ finite v → class_of f y ≡ finite w → 0 < w.count
    → let r = finish κ (by w.count) v in
    remainder f κ x y ≡ record { number = 0; value = pattern_of f (finite r.value); quotient = quotient_bits r.whole }
unfolding remainder remainder_of first
remainder_is f κ x y v w ex ey p = rw (ex, ey, not_zero w.count p)

-- [3.7] an infinite divisor leaves x, in its ordinary pattern
pub remainder_infinite : (f : Format) (κ : Kind) (x y : ℕ) (v : Value) (s : Bool) → class_of f x ≡ finite v → class_of f y ≡ infinite s
    → remainder f κ x y ≡ record { number = 0; value = ordinary_of f x; quotient = 0 }
unfolding remainder remainder_of first finish
remainder_infinite f κ x y v s ex ey = rw (ex, ey)

-- [3.6] what is told of a quotient is below the modulus, and has its three low bits; what is shown of it is what is shown of the quotient
pub bits_told : (f : Format) (κ : Kind) (x y : Class) → (remainder_of f κ x y).quotient < quotient_modulus
unfolding remainder_of
bits_told f κ x y = go (accepted (first (dividing x y))) (finish κ (divisor_of y) (dividend_of x)).whole
  where
    go : (t : Bool) (q : ℕ) → cond t (quotient_bits q) 0 < quotient_modulus
    go true q = mod-lt q (lit< tt)
    go false q = lit< tt

pub quotient_told : (f : Format) (κ : Kind) (x y : ℕ) → (remainder f κ x y).quotient < quotient_modulus
unfolding remainder
quotient_told f κ x y = bits_told f κ (class_of f x) (class_of f y)

pub three_bits : (q : ℕ) → quotient_bits q % 8 ≡ q % 8
three_bits q = mod-mod-pow q 28 3

pub shown_bits_lem : (q : ℕ) → shown (quotient_bits q) ≡ shown q
shown_bits_lem q = three_bits q
