-- The pattern of a significand at the place of a field, as the code writes it. Assumes nothing.
use mathlib.Core.Path.{◌≡◌, refl, sym, ◌∙◌}
use mathlib.Core.Logic.{◌⊎◌, inl, inr}
use mathlib.Core.Bool.{Bool, true, false, cond}
use Prim.Native.Nat.{ℕ, ◌+◌, ◌-◌, ◌*◌, ◌/◌, ◌%◌, ◌^◌, ◌≤◌, ◌<◌}
use native.Mathlib.Nat.{add-zero, div-one, mul-le-mul_right, lt_of_lt_of_le, zero-mul, mod-eq_of_lt}
use native.Mathlib.Omega.{arith}
use lib.Count.{count_leading_zeros}
use lib.Ieee.{size}
use lib.Ieee.Digits.{size-lt, size-le}
use lib.Pow.{pow_mono, shl_lt, shl-shr}
use Rattle.digits.proofs.Common.{shift_shift}
use Rattle.digits.proofs.Size.{size_zero, size_shift, size_leading}
use Rattle.definitions.specs.Class.{finite}
use Rattle.definitions.specs.Format.{Format, top_field, leading, sign_weight, magnitude, pattern_of}
use Rattle.quick_short.specs.Short.{Short}
use Rattle.quick_short.proofs.Formats.{twice, leading_small, sign_small, sign_is}

-- a pattern is its sign and its magnitude
abbrev pub pattern : Format → Bool → ℕ → ℕ
pattern f n k = pattern_of f (finite (record { negative = n; count = k }))

signed_pattern : (f : Format) (n : Bool) (k : ℕ) → pattern f n k ≡ cond n (sign_weight f) 0 + magnitude f k
unfolding pattern_of
signed_pattern f n k = refl

sign_most : (f : Format) (n : Bool) → cond n (sign_weight f) 0 ≤ sign_weight f
sign_most f true = omega arith
sign_most f false = omega arith

module _ (f : Format) (s : Short f) (n : Bool) where
  -- a count that drops j digits
  dropped : (k j : ℕ) → size k - f.precision ≡ j → magnitude f k ≡ j * leading f + k / 2 ^ j
  unfolding magnitude
  dropped k j h = rw (h, s.hidden)

  pub zero_pattern : (k : ℕ) → k ≡ 0 → pattern f n k ≡ cond n (sign_weight f) 0
  zero_pattern k e =
      let m : magnitude f 0 ≡ 0 = dropped 0 0 (omega (arith, size_zero)) ∙ add-zero (0 * leading f) ∙ zero-mul (leading f) in
      signed_pattern f n k ∙ rw (e, m) (add-zero (cond n (sign_weight f) 0))

  -- a significand r that is not zero, at the place of the field e, where p is the precision
  module _ (sign r e p : ℕ) (precise : p ≡ f.precision) (signed : sign ≡ cond n (sign_weight f) 0) (some : 0 < r) (word : r < 2 ^ 64) (short : r < 2 ^ f.precision)
      (low : 1 ≤ e) (high : e < top_field f) where
    abbrev k : ℕ
    k = r * 2 ^ (e - 1)

    -- its leading zeros within the precision
    abbrev pub z : ℕ
    z = count_leading_zeros 64 r - (64 - p)

    zeros : z + size r ≡ f.precision
    zeros = omega (arith, precise, size-le r f.precision short, size_leading 64 r word, s.few)

    -- by as many places as there are zeros, or as many as the field allows
    abbrev pub Shift : ℕ → Type 0
    Shift t = ((z < e) × (t ≡ z)) ⊎ ((e ≤ z) × (t ≡ e - 1))

    digits : size k ≡ size r + (e - 1)
    digits = size_shift r (e - 1) some

    normal : z < e → magnitude f k ≡ (e - 1 - z) * leading f + r * 2 ^ z
    normal h =
        let j = e - 1 - z in
        let p : k ≡ r * 2 ^ z * 2 ^ j = let q : z + j ≡ e - 1 = omega arith in rw (shift_shift r z j, q) in
        dropped k j (omega (arith, digits, zeros)) ∙ rw (p, shl-shr (r * 2 ^ z) j)

    denormal : e ≤ z → magnitude f k ≡ (e - 1 - (e - 1)) * leading f + k
    denormal h = let o : e - 1 - (e - 1) ≡ 0 = omega arith in dropped k 0 (omega (arith, digits, zeros)) ∙ rw (o, div-one k)

    -- what the code writes: the shifted significand and all of the pattern fit the word
    pub record Written (t : ℕ) : Type 0 where
      pub whole : r * 2 ^ t % 2 ^ 64 ≡ r * 2 ^ t
      pub fits : sign + ((e - 1 - t) * leading f + r * 2 ^ t) < 2 ^ 64
      pub is : sign + ((e - 1 - t) * leading f + r * 2 ^ t) ≡ pattern f n k

    under : (t : ℕ) → Shift t → t ≤ z
    under t (inl w) = omega (arith, w.1)
    under t (inr w) = omega (arith, w.0, w.1)

    magnitude_is : (t : ℕ) → Shift t → (e - 1 - t) * leading f + r * 2 ^ t ≡ magnitude f k
    magnitude_is t (inl w) = rw w.1 (sym (normal w.0))
    magnitude_is t (inr w) = rw w.1 (sym (denormal w.0))

    pub written : (t : ℕ) → Shift t → Written t
    written t shift =
        let h = leading f in
        let small : r * 2 ^ t < 2 ^ f.precision = lt_of_lt_of_le (shl_lt (size r) t (size-lt r)) (pow_mono {i = size r + t} {j = f.precision} (omega (arith, zeros, under t shift))) in
        let l : (e - 1 - t + 2) * h ≤ (top_field f + 1) * h = mul-le-mul_right h (omega (arith, high)) in
        record {
          whole = mod-eq_of_lt (omega (arith, small, twice f s, leading_small f s));
          fits = omega (arith, signed, sign_most f n, sign_small f s, sign_is f s, small, twice f s, l);
          is = (λ i. signed i + magnitude_is t shift i) ∙ sym (signed_pattern f n k);
        }
