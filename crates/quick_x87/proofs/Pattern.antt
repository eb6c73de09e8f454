-- The x87 pattern of a significand at the place of a field, as the code writes it. Assumes nothing.
use mathlib.Core.Path.{◌≡◌, refl, sym, ap, ◌∙◌}
use mathlib.Core.Bool.{Bool, true, false, cond}
use Prim.Native.Nat.{ℕ, ◌+◌, ◌-◌, ◌*◌, ◌/◌, ◌%◌, ◌^◌, ◌≤◌, ◌<◌}
use native.Mathlib.Nat.{add-zero, div-one, mod-eq_of_lt}
use native.Mathlib.Omega.{arith}
use borrow.Author.Tests.{le-leb, lt-leb}
use lib.Count.{count_leading_zeros}
use Rattle.digits.proofs.Shift.{shifted_small, shifted_top}
use Rattle.digits.proofs.Size.{size_zero}
use Rattle.definitions.specs.Class.{finite}
use Rattle.definitions.specs.Format.{x87, words, body, magnitude, pattern_of}
use Rattle.definitions.specs.declared.Layout.TheVariants.{Explicit}
use Rattle.quick.proofs.Magnitude.{Given, normal_magnitude, denormal_small, denormal_magnitude}

-- a pattern is its sign and its magnitude
abbrev pub pattern : Bool → ℕ → ℕ
pattern n k = pattern_of x87 (finite (record { negative = n; count = k }))

signed_pattern : (n : Bool) (k : ℕ) → pattern n k ≡ cond n (2 ^ 79) 0 + magnitude x87 k
unfolding pattern_of
signed_pattern n k = refl

-- the sign stands in the upper word
sign_word : (n : Bool) → cond n (2 ^ 79) 0 ≡ cond n 32768 0 * 2 ^ 64
sign_word true = refl
sign_word false = refl

pub sign_most : (n : Bool) → cond n 32768 0 ≤ 32768
sign_most true = omega arith
sign_most false = omega arith

module _ (n : Bool) (sign : ℕ) (signed : sign ≡ cond n 32768 0) where
  pattern_is : (k high low : ℕ) → high * 2 ^ 64 + low ≡ magnitude x87 k → words (sign + high) low ≡ pattern n k
  pattern_is k high low e = omega (arith, signed, sign_word n, e, signed_pattern n k)

  pub zero_pattern : (k : ℕ) → k ≡ 0 → words sign 0 ≡ pattern n k
  unfolding magnitude
  zero_pattern k e = rw (← add-zero sign) (pattern_is k 0 0 (rw (e, size_zero)))

  module _ (r f : ℕ) (some : 0 < r) (word : r < 2 ^ 64) (low : 1 ≤ f) where
    g : Given x87 0 r f
    g = record { full = refl; ends = omega arith; some = some; word = word; low = low }

    abbrev z : ℕ
    z = count_leading_zeros 64 r

    -- without spare bits
    count_is_lem : r / 2 ^ 0 * 2 ^ (f - 1) ≡ r * 2 ^ (f - 1)
    count_is_lem = ap (λ (s : ℕ). s * 2 ^ (f - 1)) (div-one r)

    -- a leading digit adds one to the field
    pub normal : z < f → words (sign + (f - z)) (r * 2 ^ z % 2 ^ 64) ≡ pattern n (r * 2 ^ (f - 1))
    normal h =
        let s = r * 2 ^ z % 2 ^ 64 in
        let top : 2 ^ 63 ≤ s = rw (mod-eq_of_lt (shifted_small 64 r g.some g.word)) (shifted_top 64 r g.some g.word) in
        let m : magnitude x87 (r * 2 ^ (f - 1)) ≡ body x87 Explicit (f - 1 - z) s = ap (magnitude x87) (sym count_is_lem) ∙ normal_magnitude x87 0 r f g h ∙ ap (body x87 Explicit (f - 1 - z)) (div-one s) in
        pattern_is (r * 2 ^ (f - 1)) (f - z) s (omega (arith, (rw (le-leb (2 ^ 63) s top) at m)))

    pub denormal : f ≤ z → words sign (r * 2 ^ (f - 1) % 2 ^ 64) ≡ pattern n (r * 2 ^ (f - 1))
    denormal h =
        let k = r * 2 ^ (f - 1) in
        let small : k < 2 ^ 63 = rw count_is_lem at (denormal_small x87 0 r f g h) in
        let m : magnitude x87 k ≡ body x87 Explicit 0 k = rw count_is_lem at (denormal_magnitude x87 0 r f g h) in
        rw (← add-zero sign) (pattern_is k 0 (k % 2 ^ 64) (omega (arith, small, (rw (lt-leb (2 ^ 63) k small) at m))))
