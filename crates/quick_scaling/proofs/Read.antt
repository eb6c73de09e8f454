-- The fields that the code has read of a pattern, and a power added to the exponent field: an i64 holds the sum. Assumes nothing.
use mathlib.Core.Path.{◌≡◌, ap, ◌∙◌}
use Prim.Native.Nat.{ℕ, ◌≤◌, ◌<◌}
use native.Mathlib.Omega.{arith}
use lib.IntN.{ℤ, pos, ◌+ℤ◌}
use mir.Syntax.{w32, w64}
use mir.Val.{SFits, to_z, of_z}
use mir.ValLaws.{to_z-of_z}
use Rattle.digits.proofs.Signed.{mag_add}
use Rattle.definitions.specs.Format.{Format, field_weight}
use Rattle.laws.proofs.Pattern.{field_small, rest_small}
use Rattle.shapes.specs.Shape.{Sound, fields_in}
use Rattle.shapes.specs.declared.fields.Fields.{Fields}
use Rattle.shapes.proofs.Weights.{top_le}

pub sum_fits : (e : ℕ) (k : ℤ) → e ≤ 32767 → SFits w32 k → SFits w64 (pos e +ℤ k)
sum_fits e k small fits = record { sfits = omega (arith, mag_add (pos e) k, fits.sfits) }

module _ (f : Format) (ok : Sound f) (b : ℕ) (r : Fields) (is : r ≡ fields_in f b) where
  pub field_le : r.field ≤ 32767
  field_le = rw is (omega (arith, field_small f b, top_le f ok))

  pub stored_below : r.stored < field_weight f
  stored_below = rw is (rest_small f b)

  -- what the machine reads of the sum
  pub sum_back : (k z : ℤ) → SFits w32 k → z ≡ pos r.field +ℤ to_z w32 (of_z w32 k) → to_z w64 (of_z w64 z) ≡ pos (fields_in f b).field +ℤ k
  sum_back k z fits e =
      ap (λ (a : ℤ). to_z w64 (of_z w64 a)) (e ∙ (λ i. pos r.field +ℤ to_z-of_z w32 k fits i))
      ∙ to_z-of_z w64 (pos r.field +ℤ k) (sum_fits r.field k field_le fits) ∙ rw is
