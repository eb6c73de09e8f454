-- A gauge that is good passes its floats: its patterns come back as they were. Assumes nothing.
use mathlib.Core.Path.{◌≡◌, refl, ap, ◌∙◌}
use mathlib.Core.Bool.{true, false, not, ◌||◌}
use Prim.Native.Nat.{ℕ, ◌<◌, ◌^◌}
use borrow.Author.Tests.{not-true}
use Rattle.definitions.specs.Class.{Class, unsupported, nan, infinite, finite}
use Rattle.definitions.specs.Format.{binary64, class_of, pattern_of}
use Rattle.definitions.specs.Numbers.{is_unsupported, is_nan, is_infinite}
use Rattle.definitions.specs.Fold.{bad}
use Rattle.definitions.specs.Stem as definition
use Rattle.definitions.specs.Stem.{turn, roller, is_positive, period_of, origin_of, good}
use Rattle.definitions.proofs.Refusals.{supported}
use Rattle.digits.proofs.Tests.{clash, and_both}
use Rattle.laws.proofs.Regular.{regular64}
use Rattle.laws.proofs.RoundTrip.{written_read}
use Rattle.laws.proofs.Ordinary.{hidden_ordinary}
use Rattle.floats.proofs.Passed.{passed, floated, passed_is}
use Rattle.gauges.specs.Held.{gauge_held, gauge_bits}

positive_finite : (c : Class) → is_positive c ≡ true → is_nan c || is_infinite c ≡ false
positive_finite unsupported e = refl
positive_finite (nan n s) e = clash (cc)
positive_finite (infinite n) e = clash (cc)
positive_finite (finite v) e = refl

-- a pattern of 64 bits that is finite
module _ (b : ℕ) (small : b < 2 ^ 64) where
  finite_passed : (c : Class) → class_of binary64 b ≡ c → is_unsupported c ≡ false → is_nan c || is_infinite c ≡ false → passed b ≡ b
  finite_passed unsupported e s h = clash (cc)
  finite_passed (nan n t) e s h = clash (cc)
  finite_passed (infinite n) e s h = clash (cc)
  finite_passed (finite v) e s h = passed_is b ∙ ap (λ (c : Class). pattern_of binary64 (floated c)) e ∙ written_read binary64 regular64 b v small (hidden_ordinary binary64 refl b) e

  pub passes : bad b ≡ false → passed b ≡ b
  passes h = finite_passed (class_of binary64 b) refl (supported binary64 refl b) h

  pub positive_passes : is_positive (class_of binary64 b) ≡ true → passed b ≡ b
  positive_passes h = passes (positive_finite (class_of binary64 b) h)

pub gauge_passes : (g : definition.Gauge) → good g ≡ true → period_of g < 2 ^ 64 → origin_of g < 2 ^ 64 → gauge_bits (gauge_held g) ≡ g
unfolding good
gauge_passes (turn p) e ps os = ap turn (positive_passes p ps e)
gauge_passes (roller p o) e ps os =
    let b = and_both (is_positive (class_of binary64 p)) (not (bad o)) e in
    rw (positive_passes p ps b.0, passes o os (not-true (bad o) b.1))
