-- A partial step of two significands is the cut of their counts. Assumes nothing.
use mathlib.Core.Path.{◌≡◌, sym, ap, ◌∙◌}
use mathlib.Core.Bool.{Bool}
use Prim.Native.Nat.{ℕ, ◌+◌, ◌-◌, ◌*◌, ◌/◌, ◌%◌, ◌^◌, ◌<◌}
use native.Mathlib.Nat.{mul_assoc, mul_right_comm, mul-pos, mod-lt, lt_of_lt_of_le}
use native.Mathlib.Omega.{arith}
use lib.IntN.{ℤ, pos, ◌+ℤ◌, ◌-ℤ◌, +ℤ_assoc, +ℤ-neg_ℤ_cancel}
use lib.Pow.{pow-add, pow_pos}
use lib.Ieee.{size}
use Rattle.digits.specs.Digits.{Digits}
use Rattle.digits.proofs.Common.{mod_times}
use Rattle.digits.proofs.Size.{size_pos}
use Rattle.definitions.specs.Steps.{cut_at}
use Rattle.operands.specs.Operand.{normal_of}
use Rattle.operands.proofs.Lead.{lead, lead_top, lead_word, lead_exact}
use Rattle.operands.proofs.Normal.{normal_operand}
use Rattle.pairs.specs.Pair.{left_of}
use Rattle.pairs.proofs.Link.{link_div, link_mod}

-- the dividend n and the divisor m, of which k places of the quotient are taken and j are left
module _ (s : ℤ) (neg : Bool) (n m k j : ℕ) (some : 0 < n) (dn : Digits 64 n) (more : 0 < m) (dm : Digits 64 m) (gap : size n ≡ size m + (k + j)) where
  -- the place of what is left
  t : ℕ
  t = size m - 1 + j

  divisor_is : m * 2 ^ j * 2 ^ 63 ≡ lead m * 2 ^ t
  unfolding t
  divisor_is =
      mul_right_comm m (2 ^ j) (2 ^ 63) ∙ ap (λ (i : ℕ). i * 2 ^ j) (sym (lead_exact m more dm)) ∙ mul_assoc (lead m) (2 ^ (size m - 1)) (2 ^ j)
      ∙ ap (λ (i : ℕ). lead m * i) (sym (pow-add 2 (size m - 1) j))

  dividend_is : n * 2 ^ 63 ≡ lead n * 2 ^ k * 2 ^ t
  unfolding t
  dividend_is =
      let p = size_pos m more in
      let e : size n - 1 ≡ k + (size m - 1 + j) = omega arith in
      sym (lead_exact n some dn) ∙ ap (λ (i : ℕ). lead n * 2 ^ i) e ∙ ap (λ (i : ℕ). lead n * i) (pow-add 2 k (size m - 1 + j)) ∙ sym (mul_assoc (lead n) (2 ^ k) (2 ^ (size m - 1 + j)))

  exponent_is : s +ℤ pos (size n - 1) -ℤ pos k ≡ s +ℤ pos t
  unfolding t
  exponent_is =
      let p = size_pos m more in
      let e : size n - 1 ≡ size m - 1 + j + k = omega arith in
      ap (λ (i : ℕ). s +ℤ pos i -ℤ pos k) e ∙ ap (λ (z : ℤ). z -ℤ pos k) (sym (+ℤ_assoc s (pos (size m - 1 + j)) (pos k))) ∙ +ℤ-neg_ℤ_cancel (s +ℤ pos (size m - 1 + j)) (pos k)

  lead_pos : 0 < lead m
  lead_pos = lt_of_lt_of_le (pow_pos 63) (lead_top m more)

  rest_word : lead n * 2 ^ k % lead m < 2 ^ 64
  rest_word = let l = mod-lt (lead n * 2 ^ k) lead_pos in let w = lead_word m more in omega arith

  pub cut_is : record { value = normal_of neg (lead n * 2 ^ k % lead m) (s +ℤ pos (size n - 1) -ℤ pos k); quotient = lead n * 2 ^ k / lead m % 2 ^ 32 * 2 ^ j % 2 ^ 32 }
      ≡ left_of s (cut_at j m (record { negative = neg; count = n }))
  unfolding cut_at t
  cut_is =
      let M = m * 2 ^ j in
      let q : n / M ≡ lead n * 2 ^ k / lead m = link_div n M (lead n) (lead m) k (size m - 1 + j) dividend_is divisor_is in
      let r = link_mod n M (lead n) (lead m) k (size m - 1 + j) dividend_is divisor_is (mul-pos more (pow_pos j)) lead_pos in
      λ i. record {
        value = (ap (normal_of neg (lead n * 2 ^ k % lead m)) exponent_is ∙ normal_operand s neg (lead n * 2 ^ k % lead m) (size m - 1 + j) (n % M) rest_word (sym r)) i;
        quotient = (mod_times (lead n * 2 ^ k / lead m) (2 ^ j) (2 ^ 32) ∙ ap (λ (z : ℕ). z * 2 ^ j % 2 ^ 32) (sym q)) i;
      }
