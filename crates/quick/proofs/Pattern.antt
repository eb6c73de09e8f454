-- The binary64 pattern of a significand with eleven spare bits at the place of a field, as the code writes it. Assumes nothing.
use Rattle.std.proofs.Common.{◌≡◌, ℕ, ◌+◌, ◌-◌, ◌*◌, ◌/◌, ◌%◌, ◌^◌, ◌<◌, ◌≤◌, Bool, true, false, cond, sym, refl, ap, ◌∙◌, ⊎_elim, add-zero, mul_right_comm, arith}
use Prim.Native.Nat.{min}
use Rattle.std.proofs.lemmas.Bool.{cases_lt}
use Rattle.std.proofs.Math.Nat.{min-eq_left, min-eq_right}
use lib.Count.{count_leading_zeros}
use Rattle.digits.proofs.Size.{size_zero}
use Rattle.definitions.specs.Class.{finite}
use Rattle.definitions.specs.Format.{binary64, magnitude, pattern_of}
use Rattle.quick.proofs.Magnitude.{Given, normal_magnitude, denormal_small, denormal_magnitude}

-- a pattern is its sign and its magnitude
abbrev pub pattern : Bool → ℕ → ℕ
pattern n k = pattern_of binary64 (finite (record { negative = n; count = k }))

signed_pattern : (n : Bool) (k : ℕ) → pattern n k ≡ cond n (2 ^ 63) 0 + magnitude binary64 k
unfolding pattern_of
signed_pattern n k = refl

pub zero_pattern : (n : Bool) (k : ℕ) → k ≡ 0 → pattern n k ≡ cond n (2 ^ 63) 0
unfolding magnitude
zero_pattern n k e = signed_pattern n k ∙ rw (e, size_zero) (add-zero (cond n (2 ^ 63) 0))

sign_most : (n : Bool) → cond n (2 ^ 63) 0 ≤ 2 ^ 63
sign_most true = omega arith
sign_most false = omega arith

module _ (n : Bool) (sign r f : ℕ) (signed : sign ≡ cond n (2 ^ 63) 0) (g : Given binary64 11 r f) where
  abbrev k : ℕ
  k = r / 2 ^ 11 * 2 ^ (f - 1)

  abbrev z : ℕ
  z = count_leading_zeros 64 r

  pattern_is : (m : ℕ) → m ≡ magnitude binary64 k → sign + m ≡ pattern n k
  pattern_is m e = (λ i. signed i + e i) ∙ sym (signed_pattern n k)

  normal : z < f → sign + ((f - 1 - z) * 2 ^ 52 + r * 2 ^ z % 2 ^ 64 / 2 ^ 11) ≡ pattern n k
  normal h = pattern_is _ (sym (normal_magnitude binary64 11 r f g h))

  shifted : f ≤ z → r * 2 ^ (f - 1) % 2 ^ 64 / 2 ^ 11 ≡ k
  shifted h =
      let l = denormal_small binary64 11 r f g h in
      let w : r ≡ r / 2 ^ 11 * 2 ^ 11 = omega (arith, g.ends) in
      ap (λ (i : ℕ). i % 2 ^ 64 / 2 ^ 11) (ap (λ (i : ℕ). i * 2 ^ (f - 1)) w ∙ mul_right_comm (r / 2 ^ 11) (2 ^ 11) (2 ^ (f - 1))) ∙ unshifted k l
    where
      unshifted : (k : ℕ) → k < 2 ^ 52 → k * 2 ^ 11 % 2 ^ 64 / 2 ^ 11 ≡ k
      unshifted k l = omega arith

  denormal : f ≤ z → sign + ((f - 1 - (f - 1)) * 2 ^ 52 + r * 2 ^ (f - 1) % 2 ^ 64 / 2 ^ 11) ≡ pattern n k
  denormal h = pattern_is _ (omega (arith, shifted h, denormal_magnitude binary64 11 r f g h))

  -- by as many places as there are zeros, or as many as the field allows
  pub written_is : (t : ℕ) → t ≡ min z (f - 1) → sign + ((f - 1 - t) * 2 ^ 52 + r * 2 ^ t % 2 ^ 64 / 2 ^ 11) ≡ pattern n k
  written_is t e =
      ⊎_elim (λ h. rw (e ∙ min-eq_left (omega (arith, h))) (normal h)) (λ h. rw (e ∙ min-eq_right (omega (arith, h))) (denormal h)) (cases_lt z f)
