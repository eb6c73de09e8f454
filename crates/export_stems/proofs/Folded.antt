-- A reading and a gauge that have passed floats fold to what they would have folded to. Assumes nothing.
use mathlib.Core.Path.{◌≡◌, refl, sym, ap, ◌∙◌}
use mathlib.Core.Bool.{Bool, true, false, not, cond, ◌&&◌, ◌||◌}
use Prim.Native.Nat.{ℕ, ◌≤◌}
use native.Mathlib.Omega.{arith}
use lib.Dec.{eqb}
use borrow.Author.Tests.{le-ltb, eq-eqb}
use Rattle.definitions.specs.Class.{Class, unsupported, nan, infinite, finite}
use Rattle.definitions.specs.Format.{binary64, class_of, pattern_of, house_nan}
use Rattle.definitions.specs.Numbers.{first, is_nan, is_infinite}
use Rattle.definitions.specs.declared.Kind.TheVariants.{Truncated}
use Rattle.definitions.specs.Remainder.{remainder_of}
use Rattle.definitions.specs.Difference.{difference_class, difference}
use Rattle.definitions.specs.Stem.{Gauge, turn, roller, Point, FoldedPoint, gauge_of, period_of, is_positive, good, good_fields, shifted, fold_reading, fold_point, handing}
use Rattle.laws.proofs.Folded.{good_positive, point_folded, point_left}
use Rattle.floats.proofs.Passed.{passed, floated, class_passed}
use Rattle.digits.proofs.Tests.{clash, and_true, and_false}
use Rattle.gauges.proofs.Judged.{good_held}
use Rattle.gauges.specs.Held.{gauge_held, gauge_bits}

-- a difference does not tell one NaN from another
difference_floated : (c d : Class) → difference_class binary64 (floated c) (floated d) ≡ difference_class binary64 c d
unfolding difference_class
difference_floated unsupported d = refl
difference_floated (nan n s) d = refl
difference_floated (infinite n) unsupported = refl
difference_floated (infinite n) (nan m s) = refl
difference_floated (infinite n) (infinite m) = refl
difference_floated (infinite n) (finite w) = refl
difference_floated (finite v) unsupported = refl
difference_floated (finite v) (nan m s) = refl
difference_floated (finite v) (infinite m) = refl
difference_floated (finite v) (finite w) = refl

-- and else depends on the classes of its operands alone
difference_passed : (x y : ℕ) → difference binary64 (passed x) (passed y) ≡ difference binary64 x y
unfolding difference
difference_passed x y =
    ap (λ (a : Class). pattern_of binary64 (difference_class binary64 a (class_of binary64 (passed y)))) (class_passed x)
    ∙ ap (λ (b : Class). pattern_of binary64 (difference_class binary64 (floated (class_of binary64 x)) b)) (class_passed y)
    ∙ ap (pattern_of binary64) (difference_floated (class_of binary64 x) (class_of binary64 y))

-- and so does the fold of what is divided
abbrev folded : Class → Class → ℕ
folded d p = cond (is_nan d || is_infinite d) (house_nan binary64) (remainder_of binary64 Truncated d p).value

fold_is : (g : Gauge) (x : ℕ) → fold_reading g x ≡ folded (class_of binary64 (shifted g x)) (class_of binary64 (period_of g))
unfolding fold_reading
fold_is g x = refl

-- a period above zero is no NaN
positive_kept : (c : Class) → is_positive c ≡ true → floated c ≡ c
positive_kept unsupported e = refl
positive_kept (nan n s) e = clash (cc)
positive_kept (infinite n) e = refl
positive_kept (finite v) e = refl

period_passed : (g : Gauge) → good g ≡ true → class_of binary64 (period_of (gauge_bits (gauge_held g))) ≡ class_of binary64 (period_of g)
period_passed (turn p) e = class_passed p ∙ positive_kept (class_of binary64 p) (good_positive (turn p) e)
period_passed (roller p o) e = class_passed p ∙ positive_kept (class_of binary64 p) (good_positive (roller p o) e)

-- what is divided: all NaNs are folded to one
folded_floated : (c p : Class) → folded (floated c) p ≡ folded c p
folded_floated unsupported p = refl
folded_floated (nan n s) p = refl
folded_floated (infinite n) p = refl
folded_floated (finite v) p = refl

divided_passed : (g : Gauge) (x : ℕ) (p : Class) → folded (class_of binary64 (shifted (gauge_bits (gauge_held g)) (passed x))) p ≡ folded (class_of binary64 (shifted g x)) p
unfolding shifted
divided_passed (turn q) x p = ap (λ (d : Class). folded d p) (class_passed x) ∙ folded_floated (class_of binary64 x) p
divided_passed (roller q o) x p = ap (λ (b : ℕ). folded (class_of binary64 b) p) (difference_passed x o)

pub fold_held : (g : Gauge) (x : ℕ) → good g ≡ true → fold_reading (gauge_bits (gauge_held g)) (passed x) ≡ fold_reading g x
fold_held g x e =
    fold_is (gauge_bits (gauge_held g)) (passed x)
    ∙ divided_passed g x (class_of binary64 (period_of (gauge_bits (gauge_held g))))
    ∙ ap (λ (p : Class). folded (class_of binary64 (shifted g x)) p) (period_passed g e)
    ∙ sym (fold_is g x)

-- ---- a point that is folded as the fields of a gauge say

module _ (k p o : ℕ) where
  -- a gauge whose turn has no origin is good if the fields are
  fields_are : (not (eqb k 0) || eqb o 0) ≡ true → good_fields k p o ≡ good (gauge_of k p o)
  unfolding good_fields
  fields_are e = ap (λ (b : Bool). good (gauge_of k p o) && b) e ∙ and_true (good (gauge_of k p o))

  -- and a turn's with an origin are not
  pub turn_shifted : k ≡ 0 → eqb o 0 ≡ false → good_fields k p o ≡ false
  unfolding good_fields
  turn_shifted z h = rw (eq-eqb k 0 z, h) (and_false (is_positive (class_of binary64 p)))

  pub number_told : (q : Point) → k ≤ 1 → (not (eqb k 0) || eqb o 0) ≡ true
      → (fold_point (gauge_bits (gauge_held (gauge_of k p o))) q).number ≡ first (handing k p o)
  unfolding fold_point first
  number_told q l e =
      rw (good_held (gauge_of k p o), ← fields_are e, le-ltb 1 k l)

-- the reading of a point that is folded
pub reading_told : (g : Gauge) (q : Point) → (fold_point g q).number ≡ 0 → (fold_point g q).point.reading ≡ fold_reading g q.reading
reading_told g q z = go (good g) refl
  where
    go : (t : Bool) → good g ≡ t → (fold_point g q).point.reading ≡ fold_reading g q.reading
    go true e = ap (λ (f : FoldedPoint). f.point.reading) (point_folded g q e)
    go false e = let r = ap (λ (f : FoldedPoint). f.number) (point_left g q e) in clash (omega arith)

-- and its gauge is good
pub number_good : (g : Gauge) (q : Point) → (fold_point (gauge_bits (gauge_held g)) q).number ≡ 0 → good g ≡ true
number_good g q z = sym (good_held g) ∙ go (good (gauge_bits (gauge_held g))) refl
  where
    go : (t : Bool) → good (gauge_bits (gauge_held g)) ≡ t → t ≡ true
    go true e = refl
    go false e = let r = ap (λ (f : FoldedPoint). f.number) (point_left (gauge_bits (gauge_held g)) q e) in clash (omega arith)
