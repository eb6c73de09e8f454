-- A remainder of two patterns makes at most D / 11 + 2 divisions, in every format, and none where nothing is divided. Assumes nothing.
use Rattle.std.specs.Prelude.{None}
use Rattle.std.proofs.Common.{◌≡◌, ℕ, ◌+◌, ◌/◌, ◌<◌, ◌≤◌, Bool, true, false, cond, eqb, ℤ, pos, negsuc, ◌-ℤ◌, nat_abs, refl, zero-le, pos_of_ne-zero, le-ltb}
use borrow.Author.Tests.{eqb-false}
use lib.Signed.{lt_z}
use Rattle.definitions.specs.Class.{Value, Class, unsupported, nan, infinite, finite, gap}
use Rattle.definitions.specs.Format.{Format, class_of, exponent_of}
use Rattle.laws.proofs.Gap.{gap_exponents}
use Rattle.operands.specs.declared.Operand.{Operand}
use Rattle.operands.specs.declared.Operand.TheVariants.{Unsupported, Nan, Infinite, Zero, Finite}
use Rattle.operands.specs.Operand.{unpacked_of, operand_of, divisor_operand}
use Rattle.division.specs.Divisions.{divisions_of}
use Rattle.division.proofs.Count.{divisions_bounded}
use Rattle.pairs.specs.Divisions.{pair_divisions, divisor_divisions, divisions, clipped, gap_of}

-- a gap that is not below zero is a number of places
by_gap : (a b : ℕ) (d : ℤ) → cond (lt_z d (pos 0)) 0 (divisions_of a b (nat_abs d)) ≤ clipped d / 11 + 2
by_gap a b (pos n) = simp (le-ltb n 0 zero-le) (divisions_bounded a b n)
by_gap a b (negsuc n) = zero-le

-- by what takes nothing off, none
by_unbounded : (o : Operand) → divisor_divisions o None ≡ 0
by_unbounded Unsupported = refl
by_unbounded (Nan n t) = refl
by_unbounded (Infinite n) = refl
by_unbounded (Zero n) = refl
by_unbounded (Finite x) = refl

module _ (f : Format) where
  pair_within : (v w : Value) → 0 < v.count → 0 < w.count
      → pair_divisions (unpacked_of f.smallest v) (unpacked_of f.smallest w) ≤ clipped (gap v.count w.count) / 11 + 2
  unfolding unpacked_of
  pair_within v w pv pw = rw (gap_exponents f v.count w.count pv pw) (by_gap _ _ (exponent_of f v.count -ℤ exponent_of f w.count))

  values_within : (v w : Value) (t u : Bool) → eqb v.count 0 ≡ t → eqb w.count 0 ≡ u
      → divisor_divisions (cond t (Zero v.negative) (Finite (unpacked_of f.smallest v))) (divisor_operand (cond u (Zero w.negative) (Finite (unpacked_of f.smallest w))))
      ≤ cond u 0 (clipped (gap v.count w.count)) / 11 + 2
  values_within v w true u et eu = zero-le
  values_within v w false true et eu = zero-le
  values_within v w false false et eu = pair_within v w (pos_of_ne-zero (eqb-false v.count 0 et)) (pos_of_ne-zero (eqb-false w.count 0 eu))

  classes_within : (x y : Class) → divisor_divisions (operand_of f.smallest x) (divisor_operand (operand_of f.smallest y)) ≤ gap_of x y / 11 + 2
  unfolding operand_of
  classes_within unsupported y = zero-le
  classes_within (nan m t) y = zero-le
  classes_within (infinite m) y = zero-le
  classes_within (finite v) unsupported = rw by_unbounded zero-le
  classes_within (finite v) (nan m t) = rw by_unbounded zero-le
  classes_within (finite v) (infinite m) = rw by_unbounded zero-le
  classes_within (finite v) (finite w) = values_within v w (eqb v.count 0) (eqb w.count 0) refl refl

-- [3.9] count and gap are those of the patterns as they are given
pub few_divisions : (f : Format) (x y : ℕ) → divisions f x y ≤ gap_of (class_of f x) (class_of f y) / 11 + 2
unfolding divisions
few_divisions f x y = classes_within f (class_of f x) (class_of f y)
