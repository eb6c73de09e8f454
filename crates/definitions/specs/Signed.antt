-- The remainder of two patterns with the sign of its quotient. Definitions only.
use Rattle.std.specs.Prelude.{ℕ, Bool, false, ℤ}
use Rattle.definitions.specs.Class.{Class, unsupported, nan, infinite, finite, signed, combined}
use Rattle.definitions.specs.Format.{Format, class_of}
use Rattle.definitions.specs.declared.Kind.{Kind}
use Rattle.definitions.specs.Remainder.{remainder_of}

-- the sign of an operand; that of one which is always refused is not looked at
abbrev pub negative_class : Class → Bool
negative_class unsupported = false
negative_class (nan n s) = false
negative_class (infinite n) = n
negative_class (finite v) = v.negative

pub record SignedRemainder : Type 0 where
  pub number : ℕ
  pub value : ℕ
  pub quotient : ℤ

-- [3.8] the remainder, and its quotient bits with the sign that the operands have together; of 0 `signed` is 0
unfoldable pub signed_of : Format → Kind → Class → Class → SignedRemainder
unfolding remainder_of
signed_of f κ x y =
    let r = remainder_of f κ x y in
    record { number = r.number; value = r.value; quotient = signed (combined (negative_class x) (negative_class y)) r.quotient }

-- of the pattern x by the pattern y
unfoldable pub signed_remainder : Format → Kind → ℕ → ℕ → SignedRemainder
unfolding signed_of
signed_remainder f κ x y = signed_of f κ (class_of f x) (class_of f y)
