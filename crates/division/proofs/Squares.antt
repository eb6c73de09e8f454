-- Powers of two modulo a divisor, by squaring. Assumes nothing.
use Rattle.std.proofs.Common.{◌≡◌, ℕ, zero, suc, ◌+◌, ◌-◌, ◌*◌, ◌/◌, ◌%◌, ◌^◌, ◌<◌, ◌≤◌, sym, ap, ◌∙◌, lt_of_le_of_lt, mul-le-mul_right, mod-eq_of_lt, mul_comm, div-lt_iff_lt-mul, one-mul, pow-suc, mul_left_comm, arith, pow-add, shr-shr, shr_lt}
use native.Mathlib.Nat.{mul-lt-mul_of_pos_left, mod-mod}
use lib.Count.{count_leading_zeros}
use lib.Ieee.{size}
use lib.Ieee.Digits.{size-lt, size-le}
use lib.Pow.{pow-lt}
use Rattle.digits.proofs.Common.{unique_mod, mod_times}
use Rattle.digits.proofs.Size.{size_above, size_top, size_leading}
use Rattle.division.specs.Divisions.{squarings_of}

-- a product's high word, where one factor is at most b
pub high_at_most : (x y b word : ℕ) → x ≤ b → 0 < b → y < word → x * y / word < b
high_at_most x y b word l some h =
    (div-lt_iff_lt-mul {k = word} {x = x * y} {y = b} (omega (arith, h))).1
    (lt_of_le_of_lt (mul-le-mul_right y l) (mul-lt-mul_of_pos_left h some))

-- both factors may be reduced first
mul_mod : (a b m : ℕ) → (a % m) * (b % m) % m ≡ a * b % m
mul_mod a b m = mod_times a (b % m) m ∙ rw mul_comm (mod_times b a m ∙ rw mul_comm)

-- twice a number below b
pub twice_over : (p b : ℕ) → p < b → b - p ≤ p → p - (b - p) ≡ p * 2 % b
twice_over p b h l = sym (unique_mod (p * 2) 1 (p - (b - p)) b (omega arith) (omega arith))

pub twice_under : (p b : ℕ) → p < b - p → p + p ≡ p * 2 % b
twice_under p b l = sym (unique_mod (p * 2) 0 (p + p) b (omega arith) (omega arith))

-- one digit more of the exponent
module _ (e left b p q : ℕ) (some : 0 < left) (is : p % b ≡ 2 ^ (e / 2 ^ left) % b) (square : q ≡ p * p % b) where
  abbrev f : ℕ
  f = e / 2 ^ (left - 1)

  half : e / 2 ^ left ≡ f / 2
  half = let h : left - 1 + 1 ≡ left = omega arith in sym (shr-shr e (left - 1) 1 ∙ ap (λ (m : ℕ). e / 2 ^ m) h)

  squared : q ≡ 2 ^ (f / 2 + f / 2) % b
  squared =
      let i : p % b ≡ 2 ^ (f / 2) % b = is ∙ ap (λ (m : ℕ). 2 ^ m % b) half in
      square ∙ sym (mul_mod p p b) ∙ ap (λ (m : ℕ). m * m % b) i ∙ mul_mod (2 ^ (f / 2)) (2 ^ (f / 2)) b ∙ ap (λ (m : ℕ). m % b) (sym (pow-add 2 (f / 2) (f / 2)))

  pub digit_zero : f % 2 ≡ 0 → q % b ≡ 2 ^ f % b
  digit_zero z = let h : f / 2 + f / 2 ≡ f = omega arith in ap (λ (m : ℕ). m % b) squared ∙ mod-mod (2 ^ (f / 2 + f / 2)) b ∙ ap (λ (m : ℕ). 2 ^ m % b) h

  pub digit_one : (f % 2 ≡ 0 → ⊥) → (r : ℕ) → r ≡ q * 2 % b → r % b ≡ 2 ^ f % b
  digit_one z r er =
      let h : f / 2 + f / 2 + 1 ≡ f = omega arith in
      ap (λ (m : ℕ). m % b) er ∙ mod-mod (q * 2) b ∙ ap (λ (m : ℕ). m * 2 % b) squared ∙ mod_times (2 ^ (f / 2 + f / 2)) 2 b
      ∙ ap (λ (m : ℕ). m % b) (sym (pow-add 2 (f / 2 + f / 2) 1)) ∙ ap (λ (m : ℕ). 2 ^ m % b) h

-- an exponent of seven digits or more
module _ (e : ℕ) (big : 64 ≤ e) where
  seven : 6 < size e
  seven = size_above e 6 big

  -- its squarings, and six digits
  squarings_reach : 2 ^ (squarings_of e + 5) ≤ e
  squarings_reach = let h : squarings_of e + 5 ≡ size e - 1 = omega (arith, seven) in rw h (size_top e (omega arith))

  -- the upper six digits, and how many are below them
  module _ (word : e < 2 ^ 32) where
    pub zeros_few : count_leading_zeros 32 e ≤ 25
    zeros_few = omega (arith, size_leading 32 e word, seven)

    pub squarings_are : 26 - count_leading_zeros 32 e ≡ squarings_of e
    squarings_are = omega (arith, size_leading 32 e word, seven)

    pub upper_six : e / 2 ^ (26 - count_leading_zeros 32 e) < 64
    upper_six =
        let h : 6 + (26 - count_leading_zeros 32 e) ≡ size e = omega (arith, squarings_are, seven) in
        shr_lt {n = e} 6 (26 - count_leading_zeros 32 e) (rw h (size-lt e))

pub start_power : (t : ℕ) → t < 64 → 1 * 2 ^ t % 2 ^ 64 ≡ 2 ^ t
start_power t h = rw (one-mul (2 ^ t)) (mod-eq_of_lt (pow-lt h))

-- the squarings are few
pub squarings_few : {e t : ℕ} → t ≡ squarings_of e → e < 2 ^ 32 → t ≤ 26
squarings_few {e = e} is word = omega (arith, size-le e 32 word)

above : (n : ℕ) → n + 1 ≤ 2 ^ n
above zero = omega arith
above (suc n) = let h = above n in rw (pow-suc 2 n) (omega arith)

pub squarings_small : (e : ℕ) → 64 ≤ e → 32 * (squarings_of e + 1) ≤ e
squarings_small e big = let p : 2 ^ (squarings_of e + 5) ≡ 2 ^ squarings_of e * 32 = pow-add 2 (squarings_of e) 5 in omega (arith, above (squarings_of e), squarings_reach e big)

-- a power that was found modulo b, by what an earlier turn left
pub rest_is : (a b s e p r : ℕ) → p % b ≡ 2 ^ e % b → r ≡ a * 2 ^ s % b → p * r % b ≡ a * 2 ^ (s + e) % b
rest_is a b s e p r ep er =
    let f : 2 ^ e * (a * 2 ^ s) ≡ a * 2 ^ (s + e) = mul_left_comm (2 ^ e) a (2 ^ s) ∙ ap (λ (m : ℕ). a * m) (mul_comm (2 ^ e) (2 ^ s) ∙ sym (pow-add 2 s e)) in
    ap (λ (m : ℕ). p * m % b) er ∙ sym (mul_mod p (a * 2 ^ s % b) b) ∙ ap (λ (m : ℕ). m * (a * 2 ^ s % b % b) % b) ep
    ∙ ap (λ (m : ℕ). (2 ^ e % b) * m % b) (mod-mod (a * 2 ^ s) b) ∙ mul_mod (2 ^ e) (a * 2 ^ s) b ∙ ap (λ (m : ℕ). m % b) f
