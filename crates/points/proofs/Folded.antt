-- The fold of a reading, from the remainder that the library told; what it gives passes a float. Assumes nothing.
use Rattle.std.specs.Prelude.{Result, Ok, Err}
use mathlib.Core.Path.{◌≡◌, refl, sym, ap, ◌∙◌}
use mathlib.Core.Bool.{Bool, true, false, not, cond, ◌||◌}
use Prim.Native.Nat.{ℕ, ◌^◌, ◌<◌}
use native.Mathlib.Omega.{arith}
use lib.Dec.{eqb}
use lib.Ieee as Ieee
use lib.Ieee.{Float, to_bits}
use borrow.Author.Tests.{not-true, not-false}
use Rattle.digits.proofs.Tests.{clash, and_both}
use Rattle.definitions.specs.Class.{Class, unsupported, nan, infinite, finite}
use Rattle.definitions.specs.Format.{binary64, class_of, house_nan}
use Rattle.definitions.specs.Numbers.{first, dividing, is_unsupported, is_nan, is_infinite, is_zero}
use Rattle.definitions.specs.Remainder.{Remainder, remainder}
use Rattle.definitions.specs.Fold.{bad}
use Rattle.definitions.specs.Answers.{remainder_meaning, joined}
use Rattle.definitions.specs.Difference.{difference}
use Rattle.definitions.specs.Stem.{Gauge, period_of, is_positive, good, shifted, fold_reading}
use Rattle.definitions.specs.declared.Kind.TheVariants.{Truncated}
use Rattle.definitions.specs.declared.Pattern.{Pattern}
use Rattle.definitions.specs.declared.Refusal.{Refusal}
use Rattle.definitions.specs.declared.Refused.{Refused}
use Rattle.definitions.specs.declared.Residue.{Residue}
use Rattle.laws.proofs.Agrees.{agrees, agrees_bits}
use Rattle.laws.proofs.Regular.{regular64}
use Rattle.laws.proofs.Small.{remainder_small}
use Rattle.laws.proofs.Folded.{good_positive}
use Rattle.definitions.proofs.Refusals.{supported}
use Rattle.checks.proofs.Judged.{refusal_some}
use Rattle.gauges.specs.Held.{gauge_bits}
use Rattle.gauges.specs.declared.Gauge as code
use Rattle.gauges.specs.declared.Gauge.TheVariants.{Turn, Roller}
use Rattle.floats.proofs.Passed.{passed, house_passed}

-- what is divided, by each case of a gauge as the code finds it
pub shifted_turn : (g : code.Gauge) (p : Float) (x : ℕ) → g ≡ Turn p → shifted (gauge_bits g) x ≡ x
unfolding shifted
shifted_turn g p x e = rw e

pub shifted_roller : (g : code.Gauge) (p o : Float) (x : ℕ) → g ≡ Roller p o → shifted (gauge_bits g) x ≡ difference binary64 x (to_bits Ieee.binary64 o)
unfolding shifted
shifted_roller g p o x e = rw e

-- the number of a pair, by what the two stand for
number_of : (x y : ℕ) → (remainder binary64 Truncated x y).number ≡ first (dividing (class_of binary64 x) (class_of binary64 y))
unfolding remainder
number_of x y = refl

-- what a class above zero is not
positive_tests : (b : Class) → is_positive b ≡ true → (is_unsupported b ≡ false) × (is_nan b ≡ false) × (is_zero b ≡ false)
positive_tests unsupported p = clash (cc)
positive_tests (nan n s) p = clash (cc)
positive_tests (infinite n) p = clash (cc)
positive_tests (finite v) p = (refl, refl, not-true (eqb v.count 0) (and_both (not v.negative) (not (eqb v.count 0)) p).1)

-- nothing but a bad dividend is refused by a period above zero
only_bad : (a b : Class) → is_positive b ≡ true → is_unsupported a ≡ false → eqb (first (dividing a b)) 0 ≡ not (is_nan a || is_infinite a)
unfolding first
only_bad unsupported b p s = clash (cc)
only_bad (nan n t) b p s = rw (positive_tests b p).0
only_bad (infinite n) b p s = rw ((positive_tests b p).0, (positive_tests b p).1)
only_bad (finite v) b p s = rw ((positive_tests b p).0, (positive_tests b p).1, (positive_tests b p).2)

-- the remainder of x by a period above zero, from what the library told
module _ (p x : ℕ) (above : is_positive (class_of binary64 p) ≡ true) (a : Result (Residue ℕ) Refused)
    (told : remainder_meaning a ≡ remainder binary64 Truncated x p) where
  abbrev left : ℕ
  left = cond (bad x) (house_nan binary64) (remainder binary64 Truncated x p).value

  number_tells : eqb (remainder binary64 Truncated x p).number 0 ≡ not (bad x)
  number_tells =
      ap (λ (n : ℕ). eqb n 0) (number_of x p) ∙ only_bad (class_of binary64 x) (class_of binary64 p) above (supported binary64 refl x)

  pub finished : (v : Pattern) (q : ℕ) → a ≡ Ok (record { value = v; quotient = q }) → v.low ≡ left
  unfolding remainder_meaning
  finished v q e =
      let is : remainder binary64 Truncated x p ≡ record { number = 0; value = joined v; quotient = q } = sym told ∙ ap remainder_meaning e in
      let small = remainder_small binary64 regular64 Truncated x p in
      let fits : joined v < 2 ^ 64 = rw is at small in
      let z : not (bad x) ≡ true = sym number_tells ∙ ap (λ (r : Remainder). eqb r.number 0) is in
      rw (not-true (bad x) z, is) (omega arith)

  pub refused : (w : Refusal) (v : Pattern) (n : ℕ) → a ≡ Err (record { why = w; value = v }) → n ≡ house_nan binary64 → n ≡ left
  unfolding remainder_meaning
  refused w v n e h =
      let is = ap (λ (r : Remainder). r.number) (sym told ∙ ap remainder_meaning e) in
      let z : not (bad x) ≡ false = sym number_tells ∙ ap (λ (n : ℕ). eqb n 0) is ∙ refusal_some w in
      rw (not-false (bad x) z) h

first_of : (a b : Bool) → a || b ≡ false → a || false ≡ false
first_of true b e = clash (cc)
first_of false b e = refl

-- the fold of a reading, and that by a good gauge it passes a float
pub fold_is : (g : Gauge) (x : ℕ)
    → fold_reading g x ≡ cond (bad (shifted g x)) (house_nan binary64) (remainder binary64 Truncated (shifted g x) (period_of g)).value
unfolding fold_reading
fold_is g x = refl

pub fold_passed : (g : Gauge) (x : ℕ) → good g ≡ true → passed (fold_reading g x) ≡ fold_reading g x
fold_passed g x ok = rw (fold_is g x) (go (bad (shifted g x)) refl)
  where
    -- neither what is divided nor the period is a NaN
    numbers : bad (shifted g x) ≡ false → is_nan (class_of binary64 (shifted g x)) || is_nan (class_of binary64 (period_of g)) ≡ false
    numbers b =
        rw (positive_tests (class_of binary64 (period_of g)) (good_positive g ok)).1
        (first_of (is_nan (class_of binary64 (shifted g x))) (is_infinite (class_of binary64 (shifted g x))) b)

    go : (t : Bool) → bad (shifted g x) ≡ t → passed (cond t (house_nan binary64) (remainder binary64 Truncated (shifted g x) (period_of g)).value)
        ≡ cond t (house_nan binary64) (remainder binary64 Truncated (shifted g x) (period_of g)).value
    go true b = house_passed
    go false b =
        ap (to_bits Ieee.binary64) (agrees Ieee.binary64 (shifted g x) (period_of g)) ∙ sym (agrees_bits Ieee.binary64 (shifted g x) (period_of g) (numbers b))
