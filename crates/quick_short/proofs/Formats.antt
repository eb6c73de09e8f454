-- What a format with short significands gives: its weights are small. Assumes nothing.
use mathlib.Core.Path.{◌≡◌}
use Prim.Native.Nat.{ℕ, ◌+◌, ◌-◌, ◌*◌, ◌^◌, ◌≤◌, ◌<◌}
use native.Mathlib.Omega.{arith}
use lib.Pow.{pow_mono}
use Rattle.definitions.specs.Format.{Format, top_field, leading, field_weight, sign_weight}
use Rattle.laws.proofs.Layouts.{hidden_weight}
use Rattle.laws.proofs.Pattern.{rest_small}
use Rattle.laws.proofs.Representable.{leading_twice}
use Rattle.shapes.proofs.Weights.{hidden_patterns, top_le}
use Rattle.quick.proofs.Normals.{normal_significand, Normal}
use Rattle.quick_short.specs.Short.{Short, field_of, significand_of}

module _ (f : Format) (s : Short f) where
  pub weight_is : field_weight f ≡ leading f
  weight_is = hidden_weight f s.hidden

  pub leading_small : leading f ≤ 2 ^ 23
  leading_small = pow_mono {i = f.precision - 1} {j = 23} (omega (arith, s.few))

  pub twice : 2 ^ f.precision ≡ leading f + leading f
  twice = leading_twice f s.sound.regular

  pub top_small : top_field f ≤ 32767
  top_small = top_le f s.sound

  pub sign_is : leading f * (top_field f + 1) ≡ sign_weight f
  sign_is = rw weight_is

  pub sign_small : sign_weight f ≤ 2 ^ 63
  sign_small = omega (arith, hidden_patterns f s.sound s.hidden)

  module _ (b : ℕ) where
    -- the code's significand is the pattern's
    pub significand_is : significand_of f b ≡ normal_significand f b
    significand_is = rw s.hidden

    pub significand_fits : significand_of f b < 2 ^ f.precision
    significand_fits = omega (arith, twice, weight_is, rest_small f b)

    pub significand_short : significand_of f b < 2 ^ 24
    significand_short = omega (arith, leading_small, weight_is, rest_small f b)

    pub normal : 0 < field_of f b → field_of f b < top_field f → Normal f b
    normal some low = record { some = some; below_top = low; leads = leads }
      where
        leads : leading f ≤ normal_significand f b
        leads = rw s.hidden (omega arith)
