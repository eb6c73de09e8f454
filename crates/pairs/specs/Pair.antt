-- How the code holds a pair of operands and what is left of one. Nothing to believe: these only name the code's own values.
use Rattle.std.specs.Prelude.{ℕ, ◌+◌, ◌-◌, ◌%◌, ◌^◌, Bool, cond, not, ◌&&◌, ℤ, negsuc, int_lt, nat_lt}
use Rattle.definitions.specs.Class.{finite}
use Rattle.definitions.specs.Division.{Outcome, rounds_up}
use Rattle.definitions.specs.declared.Kind.{Kind}
use Rattle.definitions.specs.declared.Kind.TheVariants.{Truncated, Nearest}
use Rattle.division.specs.declared.Divided.{Divided}
use Rattle.operands.specs.declared.Unpacked.{Unpacked}
use Rattle.operands.specs.declared.Operand.TheVariants.{Finite}
use Rattle.operands.specs.Operand.{operand_of, normal_of}
use Rattle.pairs.specs.declared.Left.{Left}

-- what an outcome is, on its way
abbrev pub left_of : ℤ → Outcome → Left
left_of s r = record { value = operand_of s (finite r.value); quotient = r.whole % 2 ^ 32 }

-- a left-over of the divisor b, both in units of 2 ^ (e − 63)
abbrev pub settled_of : Kind → Bool → Divided → ℕ → ℤ → Left
settled_of κ n d b e =
    cond (rounds_up κ d.quotient d.remainder b)
    (record { value = normal_of (not n) (b - d.remainder) e; quotient = (d.quotient + 1) % 2 ^ 32 })
    (record { value = normal_of n d.remainder e; quotient = d.quotient })

-- a dividend whose exponent is below the divisor's, by one place
abbrev pub neighbours : ℤ → Bool
neighbours d = int_lt (negsuc 1) d

-- what is left of a dividend whose exponent is below the divisor's
abbrev pub below_of : Kind → Unpacked → Unpacked → ℤ → Left
below_of Truncated x y d = record { value = Finite x; quotient = 0 }
below_of Nearest x y d =
    cond (neighbours d && nat_lt y.significand x.significand)
    (record { value = normal_of (not x.negative) (y.significand - (x.significand - y.significand)) x.exponent; quotient = 1 })
    (record { value = Finite x; quotient = 0 })
