-- A value brought to bit 63 is the operand of its count, whatever the place it was written in; and an operand's class is the one it was made of. Assumes nothing.
use mathlib.Core.Path.{◌≡◌, sym, ap, ◌∙◌}
use mathlib.Core.Bool.{Bool}
use Prim.Native.Nat.{ℕ, zero, suc, ◌+◌, ◌-◌, ◌*◌, ◌/◌, ◌^◌, ◌≤◌, ◌<◌}
use native.Mathlib.Nat.{mul_assoc, mul-pos, mul-div_cancel, pos_of_ne-zero, zero-mul, zero-lt-suc, lt_of_lt_of_le}
use native.Mathlib.Omega.{arith}
use borrow.Author.Tests.{eq-eqb}
use lib.Count.{count_leading_zeros}
use lib.IntN.{ℤ, pos, ◌+ℤ◌, ◌-ℤ◌, +ℤ_assoc, +ℤ-neg_ℤ_cancel}
use lib.Pow.{pow-add, pow_pos}
use lib.Ieee.{size}
use Rattle.definitions.specs.Class.{finite}
use Rattle.digits.proofs.Tests.{not_zero}
use Rattle.digits.proofs.Size.{size_shift, size_leading, size_pos, size_between, size_cut}
use Rattle.operands.specs.Operand.{operand_of, unpacked_of, normal_of}

-- the count of a value that is not zero is not zero
module _ (s : ℤ) (n : Bool) (r t c : ℕ) (word : r < 2 ^ 64) (same : r * 2 ^ t ≡ c * 2 ^ 63) (some : 0 < r) where
  count_pos : 0 < c
  count_pos = let p = mul-pos some (pow_pos t) in pos_of_ne-zero (λ e. omega (arith, ap (λ (z : ℕ). z * 2 ^ 63) e, zero-mul (2 ^ 63)))

  -- the shift by leading zeros, in places
  places : size c - 1 + count_leading_zeros 64 r ≡ t
  places =
      let a = size_shift r t some in
      let b = size_shift c 63 count_pos in
      let p = size_pos c count_pos in
      omega (arith, ap size same, size_leading 64 r word)

  significand_is : r * 2 ^ count_leading_zeros 64 r ≡ c * 2 ^ 63 / 2 ^ (size c - 1)
  significand_is =
      let k = size c - 1 in
      let z = count_leading_zeros 64 r in
      let e : c * 2 ^ 63 ≡ r * 2 ^ z * 2 ^ k =
      sym same ∙ ap (λ (i : ℕ). r * 2 ^ i) (sym places ∙ omega arith) ∙ ap (λ (i : ℕ). r * i) (pow-add 2 z k) ∙ sym (mul_assoc r (2 ^ z) (2 ^ k)) in
      sym (ap (λ (i : ℕ). i / 2 ^ k) e ∙ mul-div_cancel (r * 2 ^ z) (pow_pos k))

  exponent_is : s +ℤ pos t -ℤ pos (count_leading_zeros 64 r) ≡ s +ℤ pos (size c - 1)
  exponent_is =
      let k = size c - 1 in
      let z = count_leading_zeros 64 r in
      ap (λ (i : ℕ). s +ℤ pos i -ℤ pos z) (sym places) ∙ ap (λ (i : ℤ). i -ℤ pos z) (sym (+ℤ_assoc s (pos k) (pos z))) ∙ +ℤ-neg_ℤ_cancel (s +ℤ pos k) (pos z)

-- r × 2^t is c in places of 2^63
pub normal_operand : (s : ℤ) (n : Bool) (r t c : ℕ) → r < 2 ^ 64 → r * 2 ^ t ≡ c * 2 ^ 63 → normal_of n r (s +ℤ pos t) ≡ operand_of s (finite (record { negative = n; count = c }))
unfolding normal_of operand_of unpacked_of
normal_operand s n zero t c word same =
    let e : c ≡ 0 = omega (arith, zero-mul (2 ^ t)) in
    simp (eq-eqb c 0 e)
normal_operand s n (suc r) t c word same =
    let some = zero-lt-suc r in
    simp (
      not_zero (suc r) some,
      not_zero c (count_pos s n (suc r) t c word same some),
      significand_is s n (suc r) t c word same some,
      exponent_is s n (suc r) t c word same some,
    )

-- ---- a significand with its leading one at bit 63, t places above the smallest place
module _ (a t : ℕ) (top : 2 ^ 63 ≤ a) (word : a < 2 ^ 64) where
  pub count_size : size (a * 2 ^ t / 2 ^ 63) ≡ suc t
  count_size =
      let s = size_between a 63 top word in
      let p : 0 < a = lt_of_lt_of_le (pow_pos 63) top in
      let u = size_shift a t p in
      omega (arith, size_cut (a * 2 ^ t) 63 (omega arith))
