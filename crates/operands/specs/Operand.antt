-- How the code holds an operand. Nothing to believe: these only name the code's own values, so that contracts can be equations.
use Rattle.std.specs.Prelude.{ℕ, ◌-◌, ◌*◌, ◌/◌, ◌^◌, ◌≤◌, ◌<◌, ◌≡◌, Bool, cond, eqb, ℤ, pos, nat_abs, ◌+ℤ◌, ◌-ℤ◌, Option, None, Some}
use Rattle.std.specs.Int.Count.{count_leading_zeros}
use Rattle.std.specs.Int.Signed.{mag}
use Rattle.std.specs.Float.Ieee.{size}
use Rattle.digits.specs.Digits.{Digits}
use Rattle.definitions.specs.Class.{Value, Class, unsupported, nan, infinite, finite}
use Rattle.definitions.specs.Division as division
use Rattle.definitions.specs.Division.{dividend_of}
use Rattle.operands.specs.declared.Unpacked.{Unpacked}
use Rattle.operands.specs.declared.Operand.{Operand}
use Rattle.operands.specs.declared.Operand.TheVariants.{Unsupported, Nan, Infinite, Zero, Finite}

-- a nonzero value with its leading one at bit 63, and its exponent, where the smallest place is 2 ^ s
unfoldable pub unpacked_of : ℤ → Value → Unpacked
unpacked_of s v = record { negative = v.negative; significand = v.count * 2 ^ 63 / 2 ^ (size v.count - 1); exponent = s +ℤ pos (size v.count - 1) }

-- the operand of a class
unfoldable pub operand_of : ℤ → Class → Operand
unfolding unpacked_of
operand_of s unsupported = Unsupported
operand_of s (nan n t) = Nan n t
operand_of s (infinite n) = Infinite n
operand_of s (finite v) = cond (eqb v.count 0) (Zero v.negative) (Finite (unpacked_of s v))

-- the place of an exponent, counted from the smallest place
abbrev pub place_in : ℤ → ℤ → ℕ
place_in s e = nat_abs (e -ℤ s)

-- the count of the value a × 2^(e − 63)
abbrev pub count_in : ℤ → ℕ → ℤ → ℕ
count_in s a e = a * 2 ^ place_in s e / 2 ^ 63

-- the class of an operand
unfoldable pub class_in : ℤ → Operand → Class
class_in s Unsupported = unsupported
class_in s (Nan n t) = nan n t
class_in s (Infinite n) = infinite n
class_in s (Zero n) = finite (record { negative = n; count = 0 })
class_in s (Finite u) = finite (record { negative = u.negative; count = count_in s u.significand u.exponent })

-- the value a × 2^(e − 63) with its leading one at bit 63
unfoldable pub normal_of : Bool → ℕ → ℤ → Operand
normal_of n a e =
    cond (eqb a 0) (Zero n) (Finite (record { negative = n; significand = a * 2 ^ count_leading_zeros 64 a; exponent = e -ℤ pos (count_leading_zeros 64 a) }))

-- what an operand divides by, as the code holds it
abbrev pub divisor_operand : Operand → Option Unpacked
divisor_operand Unsupported = None
divisor_operand (Nan n t) = None
divisor_operand (Infinite n) = None
divisor_operand (Zero n) = None
divisor_operand (Finite u) = Some u

-- the value of an unpacked operand, of any operand, and what is divided by
abbrev pub value_in : ℤ → Unpacked → Value
value_in s u = record { negative = u.negative; count = count_in s u.significand u.exponent }

abbrev pub value_operand : ℤ → Operand → Value
value_operand s o = dividend_of (class_in s o)

abbrev pub divisor_in : ℤ → Option Unpacked → division.Divisor
divisor_in s None = division.unbounded
divisor_in s (Some u) = division.by (value_in s u).count

-- an operand as `unpack` makes it: a leading one at bit 63, and an exponent that is within every format's range
pub record Ready (u : Unpacked) : Type 0 where
  pub top : 2 ^ 63 ≤ u.significand
  pub word : u.significand < 2 ^ 64
  pub small : mag u.exponent < 2 ^ 17

-- u is the value v, where the smallest place is 2 ^ s
pub record Unpacks (s : ℤ) (v : Value) (u : Unpacked) : Type 0 where
  pub some : 0 < v.count
  pub digits : Digits 64 v.count
  pub is : u ≡ unpacked_of s v
