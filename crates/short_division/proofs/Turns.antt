-- The turns of a division: the first one, of fewer than 40 places, and one of 40. Assumes nothing.
use mathlib.Core.Path.{◌≡◌, sym, ap, ◌∙◌}
use Prim.Native.Nat.{ℕ, ◌+◌, ◌*◌, ◌/◌, ◌%◌, ◌^◌, ◌≤◌, ◌<◌}
use native.Mathlib.Nat.{mod-lt, mod-eq_of_lt, lt_of_lt_of_le, lt_of_le_of_lt, mul-le-mul_left}
use native.Mathlib.Omega.{arith}
use lib.Pow.{pow_pos, pow_mono}
use Rattle.digits.proofs.Common.{shift_shift, mod_times}
use Rattle.division.specs.declared.Divided.{Divided}
use Rattle.division.specs.Divided.{divided_of}
use Rattle.division.proofs.Places.{turn_low}

-- a quotient and what is left, as the code has them
abbrev pub Reached : ℕ → ℕ → ℕ → ℕ → ℕ → Type 0
Reached a b places quotient rest = ◌≡◌ {A = Divided} (record { remainder = rest; quotient = quotient % 2 ^ 32 }) (divided_of a b places)

-- 24 digits and at most 40 places are a word
pub shifted_word : (n p : ℕ) → n < 2 ^ 24 → p ≤ 40 → n * 2 ^ p % 2 ^ 64 ≡ n * 2 ^ p
shifted_word n p h l =
    let m = mul-le-mul_left n (pow_mono {i = p} {j = 40} l) in
    mod-eq_of_lt (lt_of_le_of_lt m (short n h))
  where
    short : (n : ℕ) → n < 2 ^ 24 → n * 2 ^ 40 < 2 ^ 64
    short n h = omega arith

module _ (a b : ℕ) (some : 0 < b) (short : b ≤ 2 ^ 24) where
  pub first_turn : (p : ℕ) → a < 2 ^ 24 → p ≤ 40 → Reached a b p (a * 2 ^ p % 2 ^ 64 / b) (a * 2 ^ p % 2 ^ 64 % b)
  first_turn p h l = rw (shifted_word a p h l)

  -- what the turns before left, 40 places further up: the low digits of the quotient are those of this turn
  pub next_turn : (p q r : ℕ) → Reached a b p q r → Reached a b (p + 40) (r * 2 ^ 40 % 2 ^ 64 / b) (r * 2 ^ 40 % 2 ^ 64 % b)
  next_turn p q r before =
      let n = a * 2 ^ p in
      let is : r ≡ n % b = ap (λ (d : Divided). d.remainder) before in
      let word : n % b * 2 ^ 40 % 2 ^ 64 ≡ n % b * 2 ^ 40 = shifted_word (n % b) 40 (lt_of_lt_of_le (mod-lt n some) short) (omega arith) in
      let rest : n % b * 2 ^ 40 % b ≡ a * 2 ^ (p + 40) % b = mod_times n (2 ^ 40) b ∙ ap (λ (m : ℕ). m % b) (shift_shift a p 40) in
      let low : n % b * 2 ^ 40 / b ≡ a * 2 ^ (p + 40) / b % 2 ^ 40 = sym (turn_low n b (2 ^ 40) some (pow_pos 40)) ∙ ap (λ (m : ℕ). m / b % 2 ^ 40) (shift_shift a p 40) in
      rw (is, word, rest, low_bits (n % b * 2 ^ 40 / b) (a * 2 ^ (p + 40) / b) low)
    where
      low_bits : (q n : ℕ) → q ≡ n % 2 ^ 40 → q % 2 ^ 32 ≡ n % 2 ^ 32
      low_bits q n e = omega arith
