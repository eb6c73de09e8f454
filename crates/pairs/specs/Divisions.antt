-- How many divisions by the divisor's significand a remainder makes. Definitions only.
use Rattle.std.specs.Prelude.{ℕ, cond, ℤ, pos, negsuc, ◌-ℤ◌, ◌==◌, int_lt, unsigned_abs, Option, None, Some}
use Rattle.definitions.specs.Class.{Class, unsupported, nan, infinite, finite, gap}
use Rattle.definitions.specs.Format.{Format, class_of}
use Rattle.operands.specs.declared.Unpacked.{Unpacked}
use Rattle.operands.specs.declared.Operand.{Operand}
use Rattle.operands.specs.declared.Operand.TheVariants.{Unsupported, Nan, Infinite, Zero, Finite}
use Rattle.operands.specs.Operand.{operand_of, divisor_operand}
use Rattle.division.specs.Divisions.{divisions_of}

-- two numbers that are not zero: the engine's, over the gap; none where that is below zero
abbrev pub pair_divisions : Unpacked → Unpacked → ℕ
pair_divisions x y =
    let d = x.exponent -ℤ y.exponent in
    cond (int_lt d (pos 0)) 0 (divisions_of x.significand y.significand (unsigned_abs d))

-- a number by a divisor, and any operand by one: a zero and an infinite divisor need none, and a refusal has none
abbrev pub divisions_by : Unpacked → Option Unpacked → ℕ
divisions_by x None = 0
divisions_by x (Some y) = pair_divisions x y

abbrev pub divisor_divisions : Operand → Option Unpacked → ℕ
divisor_divisions Unsupported y = 0
divisor_divisions (Nan n t) y = 0
divisor_divisions (Infinite n) y = 0
divisor_divisions (Zero n) y = 0
divisor_divisions (Finite x) y = divisions_by x y

-- those of the remainder of two patterns
unfoldable pub divisions : Format → ℕ → ℕ → ℕ
divisions f x y = divisor_divisions (operand_of f.smallest (class_of f x)) (divisor_operand (operand_of f.smallest (class_of f y)))

-- the gap D of two patterns, where one below zero, or none, counts as 0
abbrev pub clipped : ℤ → ℕ
clipped (pos n) = n
clipped (negsuc n) = 0

abbrev pub gap_by : ℕ → Class → ℕ
gap_by n unsupported = 0
gap_by n (nan m t) = 0
gap_by n (infinite m) = 0
gap_by n (finite w) = cond (w.count == 0) 0 (clipped (gap n w.count))

abbrev pub gap_of : Class → Class → ℕ
gap_of unsupported y = 0
gap_of (nan m t) y = 0
gap_of (infinite m) y = 0
gap_of (finite v) y = gap_by v.count y
