-- Quotient digits that are near, with spare bits above the divisor. Assumes nothing.
use Rattle.std.proofs.Common.{◌≡◌, ℕ, ◌+◌, ◌-◌, ◌*◌, ◌/◌, ◌%◌, ◌^◌, ◌<◌, ◌≤◌, sym, refl, ap, ◌∙◌, le_of_lt, mul-le-mul_right, mod-eq_of_lt, mul_assoc, mul-le-mul, pos_of_ne-zero, lt_of_mul-lt-mul_right, mul-le-mul_left, mul-lt-mul_of_pos_right, div-mul-le_self, le_of_mul-le-mul_right, arith, pow_pos, pow_mono, pow-add, shr-shr}
use native.Mathlib.Nat.{lt-div-mul-add, mul-div-mul_right}
use Rattle.digits.proofs.Common.{unique_div, unique_mod}
use Rattle.reciprocals.specs.Reciprocal.{upper_of}
use Rattle.division.specs.Divided.{divided_of}
use Rattle.division.specs.declared.Divided.{Divided}
use Rattle.reciprocals.proofs.Quotients.{inverse, inverse_left}

-- n is at most p, and x is p / m, cut: the digit n * x / p leaves less than two divisors
module _ (p x m n : ℕ) (below : x * m ≤ p) (above : p ≤ x * m + m) (small : n ≤ p) (some : 0 < p) where
  abbrev q : ℕ
  q = n * x / p

  pub near_le : q * m ≤ n
  near_le =
      let e = mul-le-mul_right m (div-mul-le_self (n * x) p) in
      let f = mul-le-mul_left n below in
      le_of_mul-le-mul_right {m = q * m} {n = n} {k = p} (omega arith) some

  divisor : 0 < m
  divisor = pos_of_ne-zero (λ (z : m ≡ 0). let e = ap (λ (k : ℕ). x * k) z in let h : ⊥ = omega arith in h)

  pub near_lt : n < q * m + m + m
  near_lt =
      let e = mul-lt-mul_of_pos_right (lt-div-mul-add {a = n * x} {b = p} some) divisor in
      let f = mul-le-mul_left n above in
      let g = mul-le-mul_right m small in
      lt_of_mul-lt-mul_right p {m = n} {n = q * m + m + m} (omega arith)

-- the digit as the code finds it: n is scaled up by its spare bits first
module _ (n x k s w : ℕ) (room : n * 2 ^ k < 2 ^ 64) (shift : s ≤ w + k) where
  pub scaled : n * 2 ^ k % 2 ^ 64 * x / 2 ^ 64 / 2 ^ (w + k - s) ≡ n * 2 ^ s * x / 2 ^ (64 + w)
  scaled =
      let d = w + k - s in
      let e : 64 + d + s ≡ 64 + w + k = omega arith in
      let f : 2 ^ (64 + d) * 2 ^ s ≡ 2 ^ (64 + w) * 2 ^ k = sym (pow-add 2 (64 + d) s) ∙ ap (λ (m : ℕ). 2 ^ m) e ∙ pow-add 2 (64 + w) k in
      let g : n * 2 ^ k * x * 2 ^ s ≡ n * 2 ^ s * x * 2 ^ k = regroup n (2 ^ k) (2 ^ s) x in
      ap (λ (m : ℕ). m * x / 2 ^ 64 / 2 ^ d) (mod-eq_of_lt room) ∙ shr-shr (n * 2 ^ k * x) 64 d
      ∙ sym (mul-div-mul_right (n * 2 ^ k * x) (2 ^ (64 + d)) (pow_pos s))
      ∙ (λ i. g i / f i)
      ∙ mul-div-mul_right (n * 2 ^ s * x) (2 ^ (64 + w)) (pow_pos k)
    where
      regroup : (n u v x : ℕ) → n * u * x * v ≡ n * v * x * u
      regroup n u v x = omega arith

-- a number of a few digits, shifted
pub shifted_le : (n i s j : ℕ) → n < 2 ^ i → s ≤ j → n * 2 ^ s ≤ 2 ^ (i + j)
shifted_le n i s j h l = rw (pow-add 2 i j) (mul-le-mul (le_of_lt h) (pow_mono l))

-- what is left of a wrapped difference
pub unwrapped : (r t w p n left : ℕ) → (r + t) % 2 ^ 64 ≡ w → t ≡ p % 2 ^ 64 → w ≡ n % 2 ^ 64 → p + left ≡ n → left < 2 ^ 64 → r < 2 ^ 64 → r ≡ left
unwrapped r t w p n left e et ew is l h = omega arith

-- the 33 digits of a reciprocal, for a divisor that ends in eleven zeros
module _ (b m x : ℕ) (is : b ≡ m * 2 ^ 11) (top : 2 ^ 63 ≤ b) (word : b < 2 ^ 64) (ex : x ≡ 2 ^ 32 + upper_of b) where
  whole : x * b + ((2 ^ 32 * 2 ^ 64 - 1) % b + 1) ≡ 2 ^ 32 * 2 ^ 64
  whole = rw ex (inverse (2 ^ 64) (2 ^ 32) b (upper_of b) word (omega arith) (omega arith) refl)

  rest : (2 ^ 32 * 2 ^ 64 - 1) % b + 1 ≤ b
  rest = inverse_left (2 ^ 64) (2 ^ 32) b (upper_of b) word (omega arith) (omega arith) refl

  product : x * b ≡ x * m * 2 ^ 11
  product = ap (λ (k : ℕ). x * k) is ∙ sym (mul_assoc x m (2 ^ 11))

  pub cut_below : x * m ≤ 2 ^ 85
  cut_below = omega (arith, whole, product)

  pub cut_above : 2 ^ 85 ≤ x * m + m
  cut_above = omega (arith, whole, product, rest)

-- two digits make the quotient
module _ (a b m r0 u l q1 r1 q2 r2 : ℕ) (ia : a ≡ r0 * 2 ^ 11) (ib : b ≡ m * 2 ^ 11) (e1 : q1 * m + r1 ≡ r0 * 2 ^ u) (e2 : q2 * m + r2 ≡ r1 * 2 ^ l) where
  sum : (q1 * 2 ^ l + q2) * b + r2 * 2 ^ 11 ≡ a * 2 ^ (u + l)
  sum =
      let f = ap (λ (k : ℕ). k * 2 ^ l * 2 ^ 11) e1 in
      let g = ap (λ (k : ℕ). k * 2 ^ 11) e2 in
      let h = ap (λ (k : ℕ). (q1 * 2 ^ l + q2) * k) ib in
      let i = ap (λ (k : ℕ). k * 2 ^ (u + l)) ia in
      let j = ap (λ (k : ℕ). r0 * 2 ^ 11 * k) (pow-add 2 u l) in
      omega arith

  low_quotient : (w : ℕ) → w ≡ (q1 * 2 ^ l % 2 ^ 64 + q2) % 2 ^ 64 → w % 2 ^ 32 ≡ (q1 * 2 ^ l + q2) % 2 ^ 32
  low_quotient w ew = lows (q1 * 2 ^ l) q2 w ew
    where
      lows : (x y z : ℕ) → z ≡ (x % 2 ^ 64 + y) % 2 ^ 64 → z % 2 ^ 32 ≡ (x + y) % 2 ^ 32
      lows x y z e = omega arith

  pub joined_right : (w : ℕ) → w ≡ (q1 * 2 ^ l % 2 ^ 64 + q2) % 2 ^ 64 → r2 < m
      → ◌≡◌ {A = Divided} (record { remainder = r2 * 2 ^ 11; quotient = w % 2 ^ 32 }) (divided_of a b (u + l))
  joined_right w ew h =
      let under : r2 * 2 ^ 11 < b = omega arith in
      rw (low_quotient w ew, unique_div (a * 2 ^ (u + l)) (q1 * 2 ^ l + q2) (r2 * 2 ^ 11) b under (sym sum), unique_mod (a * 2 ^ (u + l)) (q1 * 2 ^ l + q2) (r2 * 2 ^ 11) b under (sym sum))

  pub joined_more : (w z : ℕ) → w ≡ (q1 * 2 ^ l % 2 ^ 64 + q2) % 2 ^ 64 → z ≡ (w + 1) % 2 ^ 64 → m ≤ r2 → r2 < m + m
      → ◌≡◌ {A = Divided} (record { remainder = (r2 - m) * 2 ^ 11; quotient = z % 2 ^ 32 }) (divided_of a b (u + l))
  joined_more w z ew ez g h =
      let under : (r2 - m) * 2 ^ 11 < b = omega arith in
      let s : (q1 * 2 ^ l + q2 + 1) * b + (r2 - m) * 2 ^ 11 ≡ a * 2 ^ (u + l) = one_more (q1 * 2 ^ l + q2) b m r2 (a * 2 ^ (u + l)) ib g sum in
      rw (
        next_low (q1 * 2 ^ l + q2) w z (low_quotient w ew) ez,
        unique_div (a * 2 ^ (u + l)) (q1 * 2 ^ l + q2 + 1) ((r2 - m) * 2 ^ 11) b under (sym s),
        unique_mod (a * 2 ^ (u + l)) (q1 * 2 ^ l + q2 + 1) ((r2 - m) * 2 ^ 11) b under (sym s),
      )
    where
      one_more : (q b m r n : ℕ) → b ≡ m * 2 ^ 11 → m ≤ r → q * b + r * 2 ^ 11 ≡ n → (q + 1) * b + (r - m) * 2 ^ 11 ≡ n
      one_more q b m r n ib g e = omega arith

      next_low : (q w z : ℕ) → w % 2 ^ 32 ≡ q % 2 ^ 32 → z ≡ (w + 1) % 2 ^ 64 → z % 2 ^ 32 ≡ (q + 1) % 2 ^ 32
      next_low q w z e ez = omega arith
