-- Two numbers that are written in another place: their quotients agree, and their remainders differ by the place alone. Assumes nothing.
use Rattle.std.proofs.Common.{◌≡◌, ℕ, ◌*◌, ◌/◌, ◌%◌, ◌^◌, ◌<◌, sym, ◌∙◌, pow_pos}
use native.Mathlib.Nat.{mul-div-mul_right}
use Rattle.digits.proofs.Common.{mod_scale}

-- n is a × 2^k and m is b, both in places of t, where counts are in places of 63
module _ (n m a b k t : ℕ) (same : n * 2 ^ 63 ≡ a * 2 ^ k * 2 ^ t) (by : m * 2 ^ 63 ≡ b * 2 ^ t) where
  pub link_div : n / m ≡ a * 2 ^ k / b
  link_div = sym (mul-div-mul_right n m (pow_pos 63)) ∙ (λ i. same i / by i) ∙ mul-div-mul_right (a * 2 ^ k) b (pow_pos t)

  pub link_mod : 0 < m → 0 < b → n % m * 2 ^ 63 ≡ a * 2 ^ k % b * 2 ^ t
  link_mod h g = sym (mod_scale n m (2 ^ 63) h (pow_pos 63)) ∙ (λ i. same i % by i) ∙ mod_scale (a * 2 ^ k) b (2 ^ t) g (pow_pos t)
