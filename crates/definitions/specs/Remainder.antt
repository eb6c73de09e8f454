-- The remainder of two patterns, with its number and quotient bits. Definitions only.
use Rattle.std.specs.Prelude.{ℕ, ◌%◌, ◌^◌, cond}
use Rattle.definitions.specs.Class.{Class, finite}
use Rattle.definitions.specs.Format.{Format, class_of, pattern_of}
use Rattle.definitions.specs.Numbers.{first, accepted, dividing}
use Rattle.definitions.specs.Facts.{refused_value}
use Rattle.definitions.specs.declared.Kind.{Kind}
use Rattle.definitions.specs.Division.{Outcome, finish, dividend_of, divisor_of}

-- [3.6] how many quotients an answer tells apart, and how many are shown where there is one byte or one digit for them: here, and nowhere
-- else in the definitions
abbrev pub quotient_modulus : ℕ
quotient_modulus = 2 ^ 31

abbrev pub shown_modulus : ℕ
shown_modulus = 8

abbrev pub quotient_bits : ℕ → ℕ
quotient_bits q = q % quotient_modulus

abbrev pub shown : ℕ → ℕ
shown q = q % shown_modulus

pub record Remainder : Type 0 where
  pub number : ℕ
  pub value : ℕ
  pub quotient : ℕ

-- an answer for an accepted number, the refusal's values otherwise: w is what a refusal returns
abbrev pub remainder_report : Format → ℕ → ℕ → Outcome → Remainder
remainder_report f w n r =
    record {
      number = n;
      value = cond (accepted n) (pattern_of f (finite r.value)) w;
      quotient = cond (accepted n) (quotient_bits r.whole) 0;
    }

unfoldable pub remainder_of : Format → Kind → Class → Class → Remainder
unfolding first refused_value
remainder_of f κ x y = let n = first (dividing x y) in remainder_report f (refused_value f n x y) n (finish κ (divisor_of y) (dividend_of x))

-- the remainder of the pattern x by the pattern y
unfoldable pub remainder : Format → Kind → ℕ → ℕ → Remainder
unfolding remainder_of
remainder f κ x y = remainder_of f κ (class_of f x) (class_of f y)
