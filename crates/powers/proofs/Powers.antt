-- A power and the natural number that the code takes for it scale alike. Assumes nothing.
use mathlib.Core.Path.{◌≡◌, refl, sym, ap, ◌∙◌}
use mathlib.Core.Bool.{Bool, true, false}
use Prim.Native.Nat.{suc, min, ◌+◌, ◌-◌, ◌≤◌, ◌<◌}
use native.Mathlib.Omega.{arith}
use borrow.Author.Tests.{ltb-true, ltb-false}
use lib.Dec.{ltb}
use lib.IntN.{ℤ, pos, negsuc, ◌+ℤ◌, ◌-ℤ◌}
use Rattle.std.specs.Int.{int_max, int_min}
use Rattle.std.proofs.lemmas.Int.{ints, clamps}
use Rattle.definitions.specs.Class.{Value}
use Rattle.definitions.specs.Format.{Format, Representable, Regular, reach}
use Rattle.definitions.specs.Scale.{scale_value}
use Rattle.laws.proofs.Scaling.{scale_far_up, scale_far_down}
use Rattle.powers.specs.Power.{far, offset_of}

-- what the code clamps and adds
pub clamped : (k : ℤ) → int_max (negsuc 65535) (int_min k (pos far)) +ℤ pos far ≡ pos (offset_of k)
unfolding offset_of
clamped (pos n) = omega (arith, ints, clamps)
clamped (negsuc n) = omega (arith, ints, clamps)

pub offset_small : (k : ℤ) → offset_of k ≤ far + far
unfolding offset_of
offset_small (pos n) = omega arith
offset_small (negsuc n) = omega arith

-- ---- and what they scale by
module _ (f : Format) (r : Regular f) (v : Value) (some : 0 < v.count) (held : Representable f v.count) (short : reach f < far) where
  pub scale_offset : (k : ℤ) → scale_value f v k ≡ scale_value f v (pos (offset_of k) -ℤ pos far)
  unfolding offset_of
  scale_offset (pos n) = go (ltb far n) refl
    where
      go : (t : Bool) → ltb far n ≡ t → scale_value f v (pos n) ≡ scale_value f v (pos (far + min n far) -ℤ pos far)
      go true e = scale_far_up f r v some n (omega (arith, ltb-true far n e)) ∙ sym (scale_far_up f r v some far (omega arith)) ∙ ap (scale_value f v) (omega (arith, ints, ltb-true far n e))
      go false e = ap (scale_value f v) (omega (arith, ints, ltb-false far n e))
  scale_offset (negsuc n) = go (ltb 65535 n) refl
    where
      go : (t : Bool) → ltb 65535 n ≡ t → scale_value f v (negsuc n) ≡ scale_value f v (pos (far - suc n) -ℤ pos far)
      go true e = scale_far_down f r v some n (omega (arith, ltb-true 65535 n e)) held ∙ sym (scale_far_down f r v some 65535 (omega arith) held) ∙ ap (scale_value f v) (omega (arith, ints, ltb-true 65535 n e))
      go false e = ap (scale_value f v) (omega (arith, ints, ltb-false 65535 n e))
