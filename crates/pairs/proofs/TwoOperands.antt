-- The two laws of a pair of operands, by the sign of their gap. Assumes nothing.
use Rattle.std.proofs.Common.{◌≡◌, ℕ, ◌+◌, ◌-◌, ◌*◌, ◌^◌, ◌<◌, true, false, T, ℤ, pos, negsuc, ◌+ℤ◌, ◌-ℤ◌, nat_abs, sym, refl, ap, ◌∙◌, mul_assoc, arith, pow-add, ltb-true}
use lib.Ieee.{size}
use lib.Signed.{lt_z, mag, non_neg}
use Rattle.definitions.specs.Class.{Value}
use Rattle.definitions.specs.Division.{finish_by}
use Rattle.definitions.specs.declared.Kind.{Kind}
use Rattle.digits.proofs.Signed.{mag_sub}
use Rattle.digits.proofs.Tests.{clash}
use Rattle.division.specs.Divided.{divided_of}
use Rattle.operands.specs.Operand.{unpacked_of}
use Rattle.operands.specs.declared.Unpacked.{Unpacked}
use Rattle.operands.specs.Operand.{Ready, Unpacks}
use Rattle.pairs.specs.Pair.{left_of, settled_of, below_of}
use Rattle.laws.proofs.Gap.{sub_cases, cancel}
use Rattle.operands.proofs.Lead.{lead, lead_word, lead_exact}
use Rattle.pairs.proofs.Settled.{settled}
use Rattle.pairs.proofs.Below.{below}

-- the gap of two operands is small
pub gap_small : (x y : Unpacked) → Ready x → Ready y → mag (x.exponent -ℤ y.exponent) < 2 ^ 19
gap_small x y a b = omega (arith, mag_sub x.exponent y.exponent, a.small, b.small)

-- what is not below a natural number is one
pub not_negative : (k : ℕ) (d : ℤ) → lt_z d (pos k) ≡ false → T (non_neg d)
not_negative k (pos n) e = tt
not_negative k (negsuc n) e = clash (cc)

negative_not : (n : ℕ) → lt_z (pos n) (pos 0) ≡ true → ⊥
negative_not n e = let l = ltb-true n 0 e in omega arith

module _ (κ : Kind) (s : ℤ) (v w : Value) (x y : Unpacked) (ux : Unpacks s v x) (uy : Unpacks s w y) where
  -- the places of the two leading ones
  i : ℕ
  i = size v.count - 1

  j : ℕ
  j = size w.count - 1

  gap_is : x.exponent -ℤ y.exponent ≡ pos i -ℤ pos j
  unfolding unpacked_of i j
  gap_is = (λ k. (ux.is k).exponent -ℤ (uy.is k).exponent) ∙ cancel s (pos i) (pos j)

  below_at : lt_z (pos i -ℤ pos j) (pos 0) ≡ true → below_of κ (unpacked_of s v) (unpacked_of s w) (pos i -ℤ pos j) ≡ left_of s (finish_by κ w.count v)
  unfolding i j
  below_at =
      sub_cases (λ (z : ℤ). lt_z z (pos 0) ≡ true → below_of κ (unpacked_of s v) (unpacked_of s w) z ≡ left_of s (finish_by κ w.count v)) i j
      (λ h t. absurd (negative_not (i - j) t))
      (λ d e t. below s v.negative v.count w.count ux.some ux.digits uy.some uy.digits (omega arith) κ w d refl e)

  pub below_pair : lt_z (x.exponent -ℤ y.exponent) (pos 0) ≡ true → below_of κ x y (x.exponent -ℤ y.exponent) ≡ left_of s (finish_by κ w.count v)
  below_pair t = (λ k. below_of κ (ux.is k) (uy.is k) (gap_is k)) ∙ below_at (rw gap_is at t)

  -- at a gap that is not negative, both significands stand in the divisor's place
  raised : (d : ℕ) → i ≡ d + j → v.count * 2 ^ 63 ≡ lead v.count * 2 ^ d * 2 ^ j
  unfolding i j
  raised d e =
      sym (lead_exact v.count ux.some ux.digits) ∙ ap (λ (k : ℕ). lead v.count * 2 ^ k) e ∙ ap (λ (k : ℕ). lead v.count * k) (pow-add 2 d j)
      ∙ sym (mul_assoc (lead v.count) (2 ^ d) (2 ^ j))

  settled_at : lt_z (pos i -ℤ pos j) (pos 0) ≡ false
      → settled_of κ v.negative (divided_of (lead v.count) (lead w.count) (nat_abs (pos i -ℤ pos j))) (lead w.count) (s +ℤ pos j) ≡ left_of s (finish_by κ w.count v)
  unfolding i j
  settled_at =
      sub_cases
      (λ (z : ℤ). lt_z z (pos 0) ≡ false → settled_of κ v.negative (divided_of (lead v.count) (lead w.count) (nat_abs z)) (lead w.count) (s +ℤ pos j) ≡ left_of s (finish_by κ w.count v)) i j
      (λ h t. settled κ s v.negative v.count w.count (lead v.count) (lead w.count) (i - j) j (raised (i - j) (omega arith)) (sym (lead_exact w.count uy.some uy.digits)) uy.some
      (lead_word w.count uy.some))
      (λ d e t. clash (cc))

  pub settled_pair : lt_z (x.exponent -ℤ y.exponent) (pos 0) ≡ false
      → settled_of κ x.negative (divided_of x.significand y.significand (nat_abs (x.exponent -ℤ y.exponent))) y.significand y.exponent ≡ left_of s (finish_by κ w.count v)
  unfolding unpacked_of j
  settled_pair t =
      (λ k. settled_of κ (ux.is k).negative (divided_of (ux.is k).significand (uy.is k).significand (nat_abs (gap_is k))) (uy.is k).significand (uy.is k).exponent) ∙ settled_at (rw gap_is at t)
