-- Half of a reciprocal is that of a divisor without its eleven spare bits. Assumes nothing.
use Rattle.std.proofs.Common.{◌≡◌, ℕ, ◌+◌, ◌*◌, ◌/◌, ◌%◌, ◌^◌, ◌≤◌, sym, ap, ◌∙◌, mul-le-mul_right, mul_assoc, div-add-mod', arith}

-- p is 2 ^ 12 times q, and x is p / b, cut
module _ (p q x b m e : ℕ) (is : x * b + e ≡ p) (left : e ≤ b) (whole : b ≡ m * 2 ^ 11) (scale : p ≡ q * 2 ^ 12) where
  product : x * b ≡ x * m * 2 ^ 11
  product = ap (λ (k : ℕ). x * k) whole ∙ sym (mul_assoc x m (2 ^ 11))

  half : x * m ≡ x / 2 * m * 2 + x % 2 * m
  half = let h = ap (λ (k : ℕ). k * m) (div-add-mod' x 2) in omega arith

  odd : x % 2 * m ≤ m
  odd = let l : x % 2 ≤ 1 = omega arith in let h = mul-le-mul_right m l in omega arith

  pub halved_below : x / 2 * m ≤ q
  halved_below = omega (arith, product, half)

  pub halved_above : q ≤ x / 2 * m + m
  halved_above = omega (arith, product, half, odd)
