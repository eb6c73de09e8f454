-- The significand of a count, with its leading one at bit 63: it is the count in another place, and it is read back. Assumes nothing.
use mathlib.Core.Path.{◌≡◌, refl, sym, ap, ◌∙◌, subst}
use mathlib.Core.Bool.{Bool, true, false}
use Prim.Native.Nat.{ℕ, ◌+◌, ◌-◌, ◌*◌, ◌/◌, ◌^◌, ◌≤◌, ◌<◌, ◌∣◌}
use native.Mathlib.Nat.{mul_comm, mul-div_cancel, div-mul_cancel, dvd_trans, mul-dvd-mul_right, le-div_iff_mul-le, div-lt_iff_lt-mul, mul-le-mul_right, mul-lt-mul_of_pos_right, pos_of_ne-zero}
use native.Mathlib.Omega.{arith}
use borrow.Author.Tests.{eqb-true, eqb-false}
use lib.Dec.{eqb}
use lib.IntN.{ℤ, pos, nat_abs, ◌+ℤ◌}
use lib.Pow.{pow-add, pow_pos}
use lib.Ieee.{size}
use lib.Ieee.Digits.{size-lt}
use Rattle.digits.specs.Digits.{Digits}
use Rattle.digits.proofs.Digits.{pow_dvd, digits_dvd}
use Rattle.digits.proofs.Signed.{add_sub}
use Rattle.digits.proofs.Size.{size_pos, size_top}
use Rattle.digits.proofs.Tests.{not_zero}
use Rattle.definitions.specs.Class.{Value, finite}
use Rattle.operands.specs.Operand.{unpacked_of, operand_of, class_in, place_in}
use Rattle.operands.specs.declared.Operand.{Operand}
use Rattle.operands.specs.declared.Operand.TheVariants.{Zero, Finite}

-- the significand of a count
abbrev pub lead : ℕ → ℕ
lead n = n * 2 ^ 63 / 2 ^ (size n - 1)

module _ (n : ℕ) (some : 0 < n) where
  pub lead_top : 2 ^ 63 ≤ lead n
  lead_top = (le-div_iff_mul-le (pow_pos (size n - 1))).1 (rw (mul_comm (2 ^ 63) (2 ^ (size n - 1))) (mul-le-mul_right (2 ^ 63) (size_top n some)))

  pub lead_word : lead n < 2 ^ 64
  lead_word =
      let p = size_pos n some in
      let e : 1 + (size n - 1) ≡ size n = omega arith in
      let l : n * 2 ^ 63 < 2 ^ size n * 2 ^ 63 = mul-lt-mul_of_pos_right (size-lt n) (pow_pos 63) in
      let f : 2 ^ size n ≡ 2 * 2 ^ (size n - 1) = ap (λ (i : ℕ). 2 ^ i) (sym e) ∙ pow-add 2 1 (size n - 1) in
      (div-lt_iff_lt-mul (pow_pos (size n - 1))).1 (omega arith)

  pub lead_exact : Digits 64 n → lead n * 2 ^ (size n - 1) ≡ n * 2 ^ 63
  lead_exact d =
      let k = size n - 64 in
      let whole : 2 ^ (k + 63) ∣ n * 2 ^ 63 = rw (pow-add 2 k 63) (mul-dvd-mul_right (2 ^ k) (digits_dvd 64 n d) (2 ^ 63)) in
      div-mul_cancel (2 ^ (size n - 1)) (dvd_trans (2 ^ (size n - 1)) (pow_dvd (size n - 1) (k + 63) (omega arith)) whole)

-- a finite value's operand, by whether it is zero
module _ (s : ℤ) (v : Value) where
  pub zero_operand_lem : v.count ≡ 0 → operand_of s (finite v) ≡ Zero v.negative
  unfolding operand_of
  zero_operand_lem e = rw e

  pub some_operand : 0 < v.count → operand_of s (finite v) ≡ Finite (unpacked_of s v)
  unfolding operand_of
  some_operand h = rw (not_zero v.count h)

  pub by_count : (P : Operand → Type 0) → (v.count ≡ 0 → P (Zero v.negative)) → (0 < v.count → P (Finite (unpacked_of s v))) → P (operand_of s (finite v))
  by_count P f g = go (eqb v.count 0) refl
    where
      go : (z : Bool) → eqb v.count 0 ≡ z → P (operand_of s (finite v))
      go true e = let z = eqb-true v.count 0 e in subst P (sym (zero_operand_lem z)) (f z)
      go false e = let h = pos_of_ne-zero (eqb-false v.count 0 e) in subst P (sym (some_operand h)) (g h)

  -- its place, counted from the smallest one
  pub place_is : place_in s (s +ℤ pos (size v.count - 1)) ≡ size v.count - 1
  place_is = ap nat_abs (add_sub s (pos (size v.count - 1)))

  -- what was unpacked is read back
  pub class_back : Digits 64 v.count → class_in s (operand_of s (finite v)) ≡ finite v
  unfolding class_in unpacked_of
  class_back d =
      by_count (λ (o : Operand). class_in s o ≡ finite v)
      (λ z. ap (λ (n : ℕ). finite (record { negative = v.negative; count = n })) (sym z))
      (λ h. ap (λ (n : ℕ). finite (record { negative = v.negative; count = n }))
      (ap (λ (k : ℕ). lead v.count * 2 ^ k / 2 ^ 63) place_is ∙ ap (λ (n : ℕ). n / 2 ^ 63) (lead_exact v.count h d) ∙ mul-div_cancel v.count (pow_pos 63)))
