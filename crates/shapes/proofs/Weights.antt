-- How large the weights of a format are that the code takes: its significands and its exponent fields fit a word. Assumes nothing.
use mathlib.Core.Path.{◌≡◌, subst}
use Prim.Native.Nat.{ℕ, ◌+◌, ◌-◌, ◌^◌, ◌≤◌, ◌<◌}
use native.Mathlib.Omega.{arith}
use lib.Pow.{pow_pos, pow_mono}
use Rattle.definitions.specs.Format.{Format, top_field, leading, field_weight, patterns, hidden_part}
use Rattle.definitions.specs.declared.Layout.{Layout}
use Rattle.definitions.specs.declared.Layout.TheVariants.{Hidden, Explicit}
use Rattle.laws.proofs.Layouts.{weight, hidden_le}
use Rattle.shapes.specs.Shape.{Sound, Filled}

module _ (f : Format) (ok : Sound f) where
  pub leading_pos : 0 < leading f
  leading_pos = pow_pos (f.precision - 1)

  pub leading_le : leading f ≤ 2 ^ 63
  leading_le = pow_mono {i = f.precision - 1} {j = 63} (omega (arith, ok.narrow))

  pub top_le : top_field f ≤ 32767
  top_le = omega (arith, ok.short)

  -- the field's weight is the leading digit's, or twice that
  pub weight_low : leading f ≤ field_weight f
  weight_low = omega (arith, weight f.layout f ok.regular, hidden_le f.layout (leading f))

  pub weight_le : field_weight f ≤ 2 ^ 64
  weight_le = omega (arith, weight f.layout f ok.regular, leading_le)

  -- what is left out and what is stored make a significand of one word
  pub significand_word : (t : ℕ) → t < field_weight f → hidden_part f.layout (leading f) + t < 2 ^ 64
  significand_word t h = omega (arith, weight f.layout f ok.regular, leading_le)

  -- each layout: with a hidden leading digit all patterns are of one word
  pub hidden_patterns : f.layout ≡ Hidden → patterns f ≤ 2 ^ 64
  hidden_patterns e = subst (λ (l : Layout). Filled l f) e ok.filled

  -- an explicit significand fills a word
  pub explicit_weight : f.layout ≡ Explicit → field_weight f ≡ 2 ^ 64
  explicit_weight e =
      let full : f.precision ≡ 64 = subst (λ (l : Layout). Filled l f) e ok.filled in
      rw (e, full)
