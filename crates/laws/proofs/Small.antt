-- The value of every report is a pattern of its format, and so fits where it is written. Assumes nothing.
use Prim.Native.Nat.{ℕ, ◌<◌}
use lib.IntN.{ℤ}
use Rattle.definitions.specs.Format.{Format, Regular, class_of, patterns}
use Rattle.definitions.specs.Facts.{nan_of}
use Rattle.definitions.specs.Remainder.{remainder}
use Rattle.definitions.specs.Scale.{scale_report, split_report}
use Rattle.definitions.specs.Difference.{difference}
use Rattle.definitions.specs.declared.Kind.{Kind}
use Rattle.laws.proofs.RoundTrip.{read_holds}
use Rattle.laws.proofs.Results.{result_small, nan_result, remainder_result, difference_result, scale_result, split_result}

module _ (f : Format) (r : Regular f) where
  pub remainder_small : (κ : Kind) (x y : ℕ) → (remainder f κ x y).value < patterns f
  remainder_small κ x y = result_small f r (remainder_result f r κ x y)

  pub difference_small : (x y : ℕ) → difference f x y < patterns f
  difference_small x y = result_small f r (difference_result f r x y)

  pub scale_small : (x : ℕ) (k : ℤ) → (scale_report f x k).value < patterns f
  scale_small x k = result_small f r (scale_result f r x k)

  pub split_small : (x : ℕ) → (split_report f x).significand < patterns f
  split_small x = result_small f r (split_result f r x)

  -- and so is the NaN of two patterns
  pub nan_fits : (x y : ℕ) → nan_of f (class_of f x) (class_of f y) < patterns f
  nan_fits x y = result_small f r (nan_result f r (class_of f x) (class_of f y) (read_holds f r x) (read_holds f r y))
