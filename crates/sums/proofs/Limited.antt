-- What the code makes of a word that it rounds is what the definition makes of the count. Assumes nothing.
use mathlib.Core.Path.{◌≡◌, refl, sym, ap, ◌∙◌, subst}
use mathlib.Core.Bool.{Bool, true, false, cond}
use Prim.Native.Nat.{ℕ, ◌+◌, ◌-◌, ◌*◌, ◌^◌, ◌<◌}
use native.Mathlib.Nat.{eq_of_mul-eq-mul_right, lt_of_le_of_lt}
use native.Mathlib.Omega.{arith}
use lib.Count.{count_leading_zeros, leading_le}
use lib.Dec.{eqb}
use lib.IntN.{ℤ, pos, ◌+ℤ◌, ◌-ℤ◌}
use lib.Pow.{pow_pos}
use lib.Signed.{mag, lt_z}
use lib.Ieee.{size}
use Rattle.digits.proofs.Common.{shift_shift}
use Rattle.digits.proofs.Signed.{mag_sub}
use Rattle.digits.proofs.Size.{size_zero, size_shift, size_leading}
use Rattle.digits.proofs.Shift.{shifted_small}
use Rattle.definitions.specs.Class.{Value, Class, infinite, finite}
use Rattle.definitions.specs.Format.{Format, Regular, exponent_of}
use Rattle.definitions.specs.Round.{round}
use Rattle.definitions.specs.Difference.{rounded_to, limited}
use Rattle.laws.proofs.Round.{round_le}
use Rattle.laws.proofs.RoundedTo.{rounded_shift}
use Rattle.laws.proofs.Difference.{limited_finite}
use Rattle.operands.specs.Operand.{operand_of, unpacked_of, normal_of}
use Rattle.operands.specs.declared.Operand.{Operand}
use Rattle.operands.specs.declared.Operand.TheVariants.{Unsupported, Nan, Infinite, Zero, Finite}
use Rattle.operands.specs.declared.Unpacked.{Unpacked}
use Rattle.operands.proofs.Cases.{other_cases}
use Rattle.operands.proofs.Lead.{by_count, zero_operand_lem, some_operand}
use Rattle.operands.proofs.Normal.{normal_operand}
use Rattle.sums.specs.Limit.{limit_of}

module _ (f : Format) (r : Regular f) (s : Bool) (c : ℕ) where
  abbrev v : Value
  v = record { negative = s; count = c }

  pub limited_zero : c ≡ 0 → operand_of f.smallest (limited f s c) ≡ Zero s
  limited_zero e = ap (operand_of f.smallest) (limited_finite f r s c (rw (e, size_zero) (omega arith))) ∙ zero_operand_lem f.smallest v e

  limit_operand : limit_of f.bias (operand_of f.smallest (finite v)) ≡ operand_of f.smallest (limited f s c)
  unfolding limited unpacked_of operand_of
  limit_operand =
      by_count f.smallest v (λ o. limit_of f.bias o ≡ operand_of f.smallest (limited f s c)) (λ z. sym (limited_zero z))
      (λ h. go (lt_z (pos f.bias) (exponent_of f c)) h)
    where
      go : (t : Bool) → 0 < c
          → cond t (Infinite s) (Finite (unpacked_of f.smallest v)) ≡ operand_of f.smallest (cond {A = Class} t (infinite s) (finite v))
      go true h = refl
      go false h = sym (some_operand f.smallest v h)

-- The word w rounded to p digits, as the code does it: its leading one is brought to bit 63, and k places are rounded off. What is left
-- is t places above the smallest place when it is brought there again.
module _ (p w place c : ℕ) (some : 0 < w) (word : w < 2 ^ 64) (is : rounded_to p w * 2 ^ place ≡ c * 2 ^ 62) (k t : ℕ)
    (kept : k + p ≡ 64) (at : t + (count_leading_zeros 64 w + p) ≡ place + 65) where
  abbrev z : ℕ
  z = count_leading_zeros 64 w

  abbrev quotient : ℕ
  quotient = (round (w * 2 ^ z) k).quotient

  rounded_is : quotient * 2 ^ k ≡ rounded_to p w * 2 ^ z
  unfolding rounded_to
  rounded_is =
      let e : k ≡ size (w * 2 ^ z) - p = omega (arith, size_shift w z some, size_leading 64 w word) in
      ap (λ (i : ℕ). (round (w * 2 ^ z) i).quotient * 2 ^ i) e ∙ rounded_shift p w z some

  quotient_is : quotient * 2 ^ t ≡ c * 2 ^ 63
  quotient_is =
      let a : t + z ≡ k + (place + 1) = omega arith in
      let b : z + (place + 1) ≡ place + (1 + z) = omega arith in
      let d : 62 + (1 + z) ≡ 63 + z = omega arith in
      let r = rounded_to p w in
      eq_of_mul-eq-mul_right (2 ^ z) (pow_pos z) (quotient * 2 ^ t) (c * 2 ^ 63)
      (shift_shift quotient t z ∙ ap (λ (i : ℕ). quotient * 2 ^ i) a ∙ sym (shift_shift quotient k (place + 1))
      ∙ ap (λ (i : ℕ). i * 2 ^ (place + 1)) rounded_is ∙ shift_shift r z (place + 1) ∙ ap (λ (i : ℕ). r * 2 ^ i) b
      ∙ sym (shift_shift r place (1 + z)) ∙ ap (λ (i : ℕ). i * 2 ^ (1 + z)) is
      ∙ shift_shift c 62 (1 + z) ∙ ap (λ (i : ℕ). c * 2 ^ i) d ∙ sym (shift_shift c 63 z))

  pub limited_is : (f : Format) → Regular f → (s : Bool) → limit_of f.bias (normal_of s quotient (f.smallest +ℤ pos t)) ≡ operand_of f.smallest (limited f s c)
  limited_is f r s =
      let small : quotient < 2 ^ 64 = lt_of_le_of_lt (round_le (w * 2 ^ z) k) (shifted_small 64 w some word) in
      ap (limit_of f.bias) (normal_operand f.smallest s quotient t c small quotient_is) ∙ limit_operand f r s c

-- what the code finds not to be a value is not limited
pub limit_other : (bias : ℕ) (o : Operand) → ((x : Unpacked) → o ≡ Finite x → ⊥) → o ≡ limit_of bias o
limit_other bias o k = other_cases (λ (o : Operand). o ≡ limit_of bias o) refl (λ n s. refl) (λ n. refl) (λ n. refl) o k

-- leading zeros take few places from an exponent
abbrev Near : Operand → Type 0
Near Unsupported = Unit {0}
Near (Nan n s) = Unit {0}
Near (Infinite n) = Unit {0}
Near (Zero n) = Unit {0}
Near (Finite u) = mag u.exponent < 2 ^ 21

normal_near : (n : Bool) (a : ℕ) (e : ℤ) → mag e < 2 ^ 20 → Near (normal_of n a e)
unfolding normal_of
normal_near n a e h = go (eqb a 0)
  where
    z : ℕ
    z = count_leading_zeros 64 a

    go : (t : Bool) → Near (cond t (Zero n) (Finite (record { negative = n; significand = a * 2 ^ z; exponent = e -ℤ pos z })))
    go true = tt
    go false = omega (arith, mag_sub e (pos z), leading_le 64 a)

pub value_near : (n : Bool) (a : ℕ) (e : ℤ) (u : Unpacked) → mag e < 2 ^ 20 → normal_of n a e ≡ Finite u → mag u.exponent < 2 ^ 21
value_near n a e u h is = subst Near is (normal_near n a e h)
