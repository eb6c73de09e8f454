-- The significands with their spare bits divide as the counts do, in every format. Assumes nothing.
use Rattle.std.proofs.Common.{◌≡◌, ℕ, ◌+◌, ◌-◌, ◌*◌, ◌/◌, ◌%◌, ◌^◌, ◌<◌, ◌≤◌, Bool, true, false, cond, not, leb, sym, refl, ap, ◌∙◌, mod-lt, mul-pos, mul_right_comm, mul-div_cancel, arith, pow_pos}
use native.Mathlib.Nat.{mul-mod_left}
use Rattle.digits.proofs.Common.{mod_scale, shift_shift}
use Rattle.definitions.specs.Format.{Format, sign_weight}
use Rattle.definitions.specs.Division.{Outcome, rounds_up, finish_by}
use Rattle.definitions.specs.Remainder.{Remainder, quotient_bits, remainder}
use Rattle.definitions.specs.declared.Kind.{Kind}
use Rattle.division.specs.declared.Divided.{Divided}
use Rattle.division.specs.Divided.{divided_of}
use Rattle.quotients.proofs.Bits.{bits_low}
use Rattle.laws.proofs.Division.{finer_outcome, finish_scale}
use Rattle.pairs.proofs.Settled.{up_low}
use Rattle.quick.specs.Settled.{settled_of}
use Rattle.quick.specs.declared.Settled.{Settled}
use Rattle.quick.proofs.Normals.{exponent_field, normal_significand, Normal, significand_pos, answer_of, normals_answer}

-- the answer of a value with k spare bits, at the place of the field e
abbrev answer_at : Format → ℕ → ℕ → Bool → ℕ → ℕ → Remainder
answer_at f k e n r q = answer_of f (record { negative = n; count = r / 2 ^ k * 2 ^ (e - 1) }) q

-- what the code makes of a left-over of the divisor b, by whether the quotient goes up
abbrev told : Format → ℕ → Bool → Bool → Divided → ℕ → ℕ → Remainder
told f k u n D b e = answer_at f k e (cond u (not n) n) (cond u (b - D.remainder) D.remainder) (cond u (D.quotient + 1) D.quotient)

-- as it is settled
abbrev pub settled_answer : Format → ℕ → Settled → ℕ → Remainder
settled_answer f k s e = answer_at f k e s.negative s.rest s.quotient

told_settled : (f : Format) (k : ℕ) (u n : Bool) (D : Divided) (b e : ℕ) → settled_answer f k (settled_of u n D b) e ≡ told f k u n D b e
told_settled f k true n D b e = rw (bits_low (D.quotient + 1))
told_settled f k false n D b e = refl

bits_next : (u : Bool) (q : ℕ) → quotient_bits (cond u (q % 2 ^ 32 + 1) (q % 2 ^ 32)) ≡ quotient_bits (cond u (q + 1) q)
bits_next true q = omega arith
bits_next false q = bits_low q

-- A and B in places that lie d apart: as they are, with k spare bits, and e places above the smallest one
module _ (f : Format) (κ : Kind) (s : Bool) (A B d k e : ℕ) (some : 0 < B) where
  abbrev by : ℕ → ℕ → Outcome
  by m n = finish_by κ m (record { negative = s; count = n })

  spread_is : by (B * 2 ^ k) (A * 2 ^ k * 2 ^ d) ≡ finer_outcome (2 ^ k) (by B (A * 2 ^ d))
  spread_is = rw (mul_right_comm A (2 ^ k) (2 ^ d)) (finish_scale κ B (2 ^ k) (record { negative = s; count = A * 2 ^ d }) some (pow_pos k))

  count_is_lem : by (B * 2 ^ e) (A * 2 ^ (d + e)) ≡ finer_outcome (2 ^ e) (by B (A * 2 ^ d))
  count_is_lem = rw (← shift_shift A d e) (finish_scale κ B (2 ^ e) (record { negative = s; count = A * 2 ^ d }) some (pow_pos e))

  same_answer : let r = by (B * 2 ^ k) (A * 2 ^ k * 2 ^ d) in answer_of f (by (B * 2 ^ e) (A * 2 ^ (d + e))).value (by (B * 2 ^ e) (A * 2 ^ (d + e))).whole
      ≡ answer_of f (record { negative = r.value.negative; count = r.value.count / 2 ^ k * 2 ^ e }) r.whole
  same_answer = rw (count_is_lem, spread_is, mul-div_cancel (by B (A * 2 ^ d)).value.count (pow_pos k))

-- two normal patterns, their significands a and b with k spare bits, and what a division leaves of these
module _ (f : Format) (k x y a b : ℕ) (nx : Normal f x) (ny : Normal f y) (order : exponent_field f y ≤ exponent_field f x)
    (dividend : a ≡ normal_significand f x * 2 ^ k) (divisor : b ≡ normal_significand f y * 2 ^ k)
    (D : Divided) (left : D ≡ divided_of a b (exponent_field f x - exponent_field f y)) where
  pub left_below : D.remainder < b
  left_below = rw (left, divisor) (mod-lt _ (mul-pos (significand_pos f y ny) (pow_pos k)))

  -- it keeps the spare bits
  pub left_ends : D.remainder % 2 ^ k ≡ 0
  left_ends =
      let d = exponent_field f x - exponent_field f y in
      let A = normal_significand f x in
      let B = normal_significand f y in
      rw (left, dividend, divisor, mul_right_comm A (2 ^ k) (2 ^ d), mod_scale (A * 2 ^ d) B (2 ^ k) (significand_pos f y ny) (pow_pos k)) (mul-mod_left (A * 2 ^ d % B) (2 ^ k))

  decided : (κ : Kind) (u : Bool) → u ≡ rounds_up κ D.quotient D.remainder b → told f k u (leb (sign_weight f) x) D b (exponent_field f y) ≡ remainder f κ x y
  unfolding finish_by
  decided κ u up =
      let d = exponent_field f x - exponent_field f y in
      let q = a * 2 ^ d / b in
      let r = a * 2 ^ d % b in
      let e : exponent_field f x - 1 ≡ d + (exponent_field f y - 1) = omega arith in
      let decision : rounds_up κ q r b ≡ u = sym (up ∙ rw left (up_low κ q r b)) in
      let same = same_answer f κ (leb (sign_weight f) x) (normal_significand f x) (normal_significand f y) d k (exponent_field f y - 1) (significand_pos f y ny) in
      sym (normals_answer f κ x y nx ny ∙ rw e (same ∙ rw (← dividend, ← divisor, decision, left, bits_next u q)))

  -- and settled it is the definition's answer
  pub left_answer : (κ : Kind) (S : Settled) → S ≡ settled_of (rounds_up κ D.quotient D.remainder b) (leb (sign_weight f) x) D b
      → settled_answer f k S (exponent_field f y) ≡ remainder f κ x y
  left_answer κ S settled =
      let u = rounds_up κ D.quotient D.remainder b in
      ap (λ (s : Settled). settled_answer f k s (exponent_field f y)) settled ∙ told_settled f k u (leb (sign_weight f) x) D b (exponent_field f y) ∙ decided κ u refl
