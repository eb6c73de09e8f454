-- A dividend whose exponent is below the divisor's: what the code settles on is the remainder of the counts. Assumes nothing.
use Rattle.std.proofs.Common.{◌≡◌, ℕ, zero, suc, ◌+◌, ◌-◌, ◌*◌, ◌%◌, ◌^◌, ◌<◌, ◌≤◌, Bool, true, false, cond, not, ◌&&◌, ltb, ℤ, pos, negsuc, ◌+ℤ◌, sym, refl, ap, ◌∙◌, le_trans, lt_of_lt_of_le, mod-eq_of_lt, mul_assoc, mul_comm, mul_right_comm, arith, pow_pos, pow_mono, pow-add, ltb-true, le-ltb}
use native.Mathlib.Nat.{div-eq_of_lt}
use lib.Ieee.{size}
use lib.Ieee.Digits.{size-lt}
use Rattle.digits.specs.Digits.{Digits}
use Rattle.digits.proofs.Tests.{not_zero}
use Rattle.digits.proofs.Common.{sub_scale, ltb_scale}
use Rattle.digits.proofs.Size.{size_pos, size_top}
use Rattle.definitions.specs.Class.{Value, finite}
use Rattle.definitions.specs.Division.{rounds_up, finish_by}
use Rattle.definitions.specs.declared.Kind.{Kind}
use Rattle.definitions.specs.declared.Kind.TheVariants.{Truncated, Nearest}
use Rattle.operands.specs.declared.Operand.TheVariants.{Finite}
use Rattle.operands.specs.Operand.{operand_of, unpacked_of, normal_of}
use Rattle.operands.proofs.Normal.{normal_operand}
use Rattle.laws.proofs.Division.{rounds_up_once}
use Rattle.pairs.specs.declared.Left.{Left}
use Rattle.pairs.specs.Pair.{left_of, below_of, neighbours}
use Rattle.operands.proofs.Lead.{lead, lead_top, lead_word, lead_exact}

module _ (s : ℤ) (neg : Bool) (n m : ℕ) (some : 0 < n) (dn : Digits 64 n) (more : 0 < m) (dm : Digits 64 m) (low : size n < size m) where
  v : Value
  v = record { negative = neg; count = n }

  under : n < m
  under = lt_of_lt_of_le (size-lt n) (le_trans (pow_mono {i = size n} {j = size m - 1} (omega arith)) (size_top m more))

  -- the dividend as it stands
  kept : Finite (unpacked_of s v) ≡ operand_of s (finite v)
  unfolding operand_of v
  kept = sym (rw (not_zero n some))

  up_is : rounds_up Nearest 0 n m ≡ ltb m (n * 2)
  up_is = rounds_up_once 0 n m ∙ (let e : n * 2 + 0 % 2 ≡ n * 2 = omega arith in ap (ltb m) e)

  -- exponents that are not neighbours: the dividend is below half of the divisor
  far : size n + 1 < size m → ltb m (n * 2) ≡ false
  far h =
      let l : 2 ^ (size n + 1) ≤ m = le_trans (pow_mono {i = size n + 1} {j = size m - 1} (omega arith)) (size_top m more) in
      let e : 2 ^ (size n + 1) ≡ 2 ^ size n * 2 = pow-add 2 (size n) 1 in
      let k = size-lt n in
      le-ltb m (n * 2) (omega arith)

  module _ (next : size m ≡ size n + 1) where
    t : ℕ
    t = size n - 1

    -- both in places of t
    divisor_is : m * 2 ^ 63 ≡ lead m * 2 * 2 ^ t
    unfolding t
    divisor_is =
        let p = size_pos n some in
        let e : size m - 1 ≡ 1 + (size n - 1) = omega arith in
        sym (lead_exact m more dm) ∙ ap (λ (i : ℕ). lead m * 2 ^ i) e ∙ ap (λ (i : ℕ). lead m * i) (pow-add 2 1 (size n - 1)) ∙ sym (mul_assoc (lead m) 2 (2 ^ (size n - 1)))

    near : ltb m (n * 2) ≡ ltb (lead m) (lead n)
    unfolding t
    near =
        let e : n * 2 * 2 ^ 63 ≡ lead n * (2 * 2 ^ (size n - 1)) =
        mul_right_comm n 2 (2 ^ 63) ∙ ap (λ (i : ℕ). i * 2) (sym (lead_exact n some dn)) ∙ mul_assoc (lead n) (2 ^ (size n - 1)) 2 ∙ ap (λ (i : ℕ). lead n * i) (mul_comm (2 ^ (size n - 1)) 2) in
        sym (ltb_scale m (n * 2) (2 ^ 63) (pow_pos 63)) ∙ (λ i. ltb (divisor_is i) (e i))
        ∙ ap (λ (i : ℕ). ltb i (lead n * (2 * 2 ^ (size n - 1)))) (mul_assoc (lead m) 2 (2 ^ (size n - 1))) ∙ ltb_scale (lead m) (lead n) (2 * 2 ^ (size n - 1)) (let p = pow_pos (size n - 1) in omega arith)

    -- what is missing to the divisor
    missing : lead m < lead n → (lead m - (lead n - lead m)) * 2 ^ t ≡ (m - n) * 2 ^ 63
    unfolding t
    missing h =
        let a = lead_top m more in
        let b = lead_word n some in
        let e : lead m - (lead n - lead m) ≡ lead m * 2 - lead n = omega arith in
        ap (λ (i : ℕ). i * 2 ^ (size n - 1)) e ∙ sym (sub_scale (lead m * 2) (lead n) (2 ^ (size n - 1))) ∙ (λ i. sym divisor_is i - lead_exact n some dn i) ∙ sub_scale m n (2 ^ 63)

  -- the two answers, as the code has them
  taken : Left
  taken = record { value = normal_of (not neg) (lead m - (lead n - lead m)) (s +ℤ pos (size n - 1)); quotient = 1 }

  stays : Left
  stays = record { value = Finite (unpacked_of s v); quotient = 0 }

  -- the outcome, by whether it goes up
  outcome : Bool → Left
  outcome up = record { value = operand_of s (finite (record { negative = cond up (not neg) neg; count = cond up (m - n) n })); quotient = cond up 1 0 % 2 ^ 32 }

  reply_is : (κ : Kind) → left_of s (finish_by κ m v) ≡ outcome (rounds_up κ 0 n m)
  unfolding finish_by v outcome
  reply_is κ = rw (div-eq_of_lt under, mod-eq_of_lt under)

  stays_is : stays ≡ outcome false
  unfolding stays outcome v
  stays_is = λ i. record { value = kept i; quotient = 0 }

  taken_is : size m ≡ size n + 1 → lead m < lead n → taken ≡ outcome true
  unfolding taken outcome t
  taken_is next h =
      let w = lead_word m more in
      λ i. record { value = normal_operand s (not neg) (lead m - (lead n - lead m)) (size n - 1) (m - n) (omega arith) (missing next h) i; quotient = 1 }

  nearest : (d : ℕ) → size n - 1 + suc d ≡ size m - 1 → cond (neighbours (negsuc d) && ltb (lead m) (lead n)) taken stays ≡ left_of s (finish_by Nearest m v)
  nearest zero e =
      let p = size_pos n some in
      let next : size m ≡ size n + 1 = omega arith in
      go next (ltb (lead m) (lead n)) refl ∙ ap outcome (sym (up_is ∙ near next)) ∙ sym (reply_is Nearest)
    where
      go : size m ≡ size n + 1 → (up : Bool) → ltb (lead m) (lead n) ≡ up → cond up taken stays ≡ outcome up
      go next true f = taken_is next (ltb-true (lead m) (lead n) f)
      go next false f = stays_is
  nearest (suc d) e = rw (le-ltb (suc d) 1 (omega arith)) stays_is ∙ ap outcome (sym (up_is ∙ far (omega arith))) ∙ sym (reply_is Nearest)

  pub below : (κ : Kind) (w : Value) (d : ℕ) → w.count ≡ m → size n - 1 + suc d ≡ size m - 1
      → below_of κ (unpacked_of s (record { negative = neg; count = n })) (unpacked_of s w) (negsuc d) ≡ left_of s (finish_by κ m (record { negative = neg; count = n }))
  unfolding stays taken unpacked_of v
  below Truncated w d c e = stays_is ∙ sym (reply_is Truncated)
  below Nearest w d c e = rw c (nearest d e)
