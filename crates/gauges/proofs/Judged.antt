-- What is told of an operand is told of the pattern, and a gauge that has passed floats is as good as it was. Assumes nothing.
use mathlib.Core.Path.{◌≡◌, refl, sym, subst}
use mathlib.Core.Bool.{Bool, true, false, not, ◌&&◌, ◌||◌}
use Prim.Native.Nat.{ℕ}
use lib.Dec.{T, eqb}
use lib.Ieee as Ieee
use lib.Ieee.{Float, to_bits}
use Rattle.definitions.specs.Class.{Class, unsupported, nan, infinite, finite}
use Rattle.definitions.specs.Format.{binary64, class_of}
use Rattle.definitions.specs.Numbers.{is_nan, is_infinite}
use Rattle.definitions.specs.Fold.{bad}
use Rattle.definitions.specs.Stem as definition
use Rattle.definitions.specs.Stem.{turn, roller, gauge_of, is_positive, good, good_fields}
use Rattle.digits.proofs.Tests.{not_zero, and_true, and_false}
use Rattle.operands.specs.Operand.{operand_of}
use Rattle.operands.specs.declared.Unpacked.{Unpacked}
use Rattle.operands.specs.declared.Operand.{Operand}
use Rattle.operands.specs.declared.Operand.TheVariants.{Unsupported, Nan, Infinite, Zero, Finite}
use Rattle.operands.proofs.Lead.{by_count}
use Rattle.checks.specs.Verdict.{nan_operand, infinite_operand}
use Rattle.checks.proofs.Judged.{nan_told, infinite_told}
use Rattle.floats.proofs.Passed.{floated, class_passed}
use Rattle.gauges.specs.declared.Gauge.{Gauge}
use Rattle.gauges.specs.declared.Gauge.TheVariants.{Turn, Roller}
use Rattle.gauges.specs.Held.{gauge_held, gauge_bits}

abbrev positive_operand : Operand → Bool
positive_operand Unsupported = false
positive_operand (Nan n s) = false
positive_operand (Infinite n) = false
positive_operand (Zero n) = false
positive_operand (Finite u) = not u.negative

-- neither of two, as the code asks one after the other
pub neither_second : (a b : Bool) → a ≡ false → not b ≡ not (a || b)
neither_second true b e = absurd (subst T e tt)
neither_second false b e = refl

pub neither_first : (a b : Bool) → a ≡ true → not a ≡ not (a || b)
neither_first true b e = refl
neither_first false b e = absurd (subst T (sym e) tt)

positive_told : (a : Class) → positive_operand (operand_of binary64.smallest a) ≡ is_positive a
unfolding operand_of
positive_told unsupported = refl
positive_told (nan n s) = refl
positive_told (infinite n) = refl
positive_told (finite v) =
    by_count binary64.smallest v (λ (o : Operand). positive_operand o ≡ is_positive (finite v))
    (λ z. rw (z, and_false (not v.negative)))
    (λ h. rw (not_zero v.count h, and_true (not v.negative)))

module _ (b : ℕ) (o : Operand) (e : o ≡ operand_of binary64.smallest (class_of binary64 b)) where
  pub positive_is : (x : Operand) → o ≡ x → positive_operand x ≡ is_positive (class_of binary64 b)
  positive_is x is = rw (← is, e, positive_told (class_of binary64 b))

  -- only a finite operand can be
  pub not_positive : ((u : Unpacked) → o ≡ Finite u → ⊥) → false ≡ is_positive (class_of binary64 b)
  not_positive other = go o refl
    where
      go : (x : Operand) → o ≡ x → false ≡ is_positive (class_of binary64 b)
      go Unsupported is = positive_is Unsupported is
      go (Nan n s) is = positive_is (Nan n s) is
      go (Infinite n) is = positive_is (Infinite n) is
      go (Zero n) is = positive_is (Zero n) is
      go (Finite u) is = absurd (other u is)

  pub bad_is : nan_operand o || infinite_operand o ≡ bad b
  bad_is = rw (e, nan_told binary64.smallest (class_of binary64 b), infinite_told binary64.smallest (class_of binary64 b))

-- what a float keeps is as good
positive_floated : (c : Class) → is_positive (floated c) ≡ is_positive c
positive_floated unsupported = refl
positive_floated (nan n s) = refl
positive_floated (infinite n) = refl
positive_floated (finite v) = refl

bad_floated : (c : Class) → is_nan (floated c) || is_infinite (floated c) ≡ is_nan c || is_infinite c
bad_floated unsupported = refl
bad_floated (nan n s) = refl
bad_floated (infinite n) = refl
bad_floated (finite v) = refl

pub good_held : (g : definition.Gauge) → good (gauge_bits (gauge_held g)) ≡ good g
unfolding good
good_held (turn p) = rw (class_passed p) (positive_floated (class_of binary64 p))
good_held (roller p o) = rw (class_passed p, class_passed o, positive_floated (class_of binary64 p), bad_floated (class_of binary64 o))

-- a gauge of each case, as the code finds it
pub turn_good : (g : Gauge) (p : Float) → g ≡ Turn p → good (gauge_bits g) ≡ is_positive (class_of binary64 (to_bits Ieee.binary64 p))
unfolding good
turn_good g p e = rw e

pub roller_good : (g : Gauge) (p o : Float) → g ≡ Roller p o
    → good (gauge_bits g) ≡ is_positive (class_of binary64 (to_bits Ieee.binary64 p)) && not (bad (to_bits Ieee.binary64 o))
unfolding good
roller_good g p o e = rw e

-- the fields of a gauge that was made of them
pub fields_good : (k p o : ℕ) (g : Gauge) → g ≡ gauge_held (gauge_of k p o) → good_fields k p o ≡ good (gauge_bits g) && (not (eqb k 0) || eqb o 0)
unfolding good_fields
fields_good k p o g e = rw (e, good_held (gauge_of k p o))
