-- A normal dividend whose field is so far below the divisor's that it is its own remainder, in every format. Assumes nothing.
use Rattle.std.proofs.Common.{◌≡◌, ℕ, ◌+◌, ◌-◌, ◌*◌, ◌^◌, ◌<◌, ◌≤◌, true, sym, ap, ◌∙◌, le_trans, lt_of_lt_of_le, mul-le-mul_right, mul-le-mul_left, mul-lt-mul_of_pos_right, mul-one, arith, pow_pos, pow_mono}
use Rattle.digits.proofs.Common.{shift_shift}
use Rattle.digits.proofs.Tests.{not_zero}
use Rattle.definitions.specs.Format.{Format, Regular, leading, patterns, ordinary}
use Rattle.definitions.specs.Division.{Outcome, finish_by, finish, unbounded}
use Rattle.definitions.specs.Remainder.{remainder}
use Rattle.definitions.specs.declared.Kind.{Kind}
use Rattle.definitions.specs.declared.Kind.TheVariants.{Truncated, Nearest}
use Rattle.laws.proofs.Division.{finish_under, finish_far}
use Rattle.laws.proofs.RoundTrip.{written_read}
use Rattle.quick.specs.Common.{margin_of}
use Rattle.quick.proofs.Normals.{exponent_field, normal_significand, normal_value, Normal, significand_small, count_pos, normal_class, normals_answer, answer_of}

pub margin_small : (κ : Kind) → margin_of κ ≤ 1
margin_small Truncated = omega arith
margin_small Nearest = omega arith

-- two significands with the leading weight h, g places apart at least
apart_count : (h s t a b g : ℕ) → s < h + h → h ≤ t → a + 1 + g ≤ b → s * 2 ^ a * 2 ^ g < t * 2 ^ b
apart_count h s t a b g hs ht l =
    let u : s * 2 ^ (a + g) < h * 2 ^ 1 * 2 ^ (a + g) = mul-lt-mul_of_pos_right (omega arith) (pow_pos (a + g)) in
    let m : h * 2 ^ (1 + (a + g)) ≤ h * 2 ^ b = mul-le-mul_left h (pow_mono (omega arith)) in
    rw (shift_shift s a g) (lt_of_lt_of_le u (le_trans (rw (shift_shift h 1 (a + g)) m) (mul-le-mul_right (2 ^ b) ht)))

module _ (f : Format) (r : Regular f) (x y : ℕ) (nx : Normal f x) (ny : Normal f y) where
  apart : (g : ℕ) → exponent_field f x + g < exponent_field f y → (normal_value f x).count * 2 ^ g < (normal_value f y).count
  apart g l = apart_count (leading f) (normal_significand f x) (normal_significand f y) (exponent_field f x - 1) (exponent_field f y - 1) g (significand_small f x r) ny.leads (omega (arith, nx.some))

  kept_value : (κ : Kind) → exponent_field f x + margin_of κ < exponent_field f y → finish_by κ (normal_value f y).count (normal_value f x) ≡ finish κ unbounded (normal_value f x)
  kept_value Truncated l = finish_under (normal_value f y).count (normal_value f x) (rw mul-one at (apart 0 l))
  kept_value Nearest l = finish_far Nearest (normal_value f y).count (normal_value f x) (count_pos f y ny) (doubled (normal_value f x).count (normal_value f y).count (apart 1 l))
    where
      doubled : (n m : ℕ) → n * 2 < m → 2 * n ≤ m
      doubled n m h = omega arith

  normal_ordinary : ordinary f x ≡ true
  unfolding ordinary
  normal_ordinary = simp (not_zero (exponent_field f x) nx.some)

  pub kept_answer : (κ : Kind) → x < patterns f → exponent_field f x + margin_of κ < exponent_field f y → record { number = 0; value = x; quotient = 0 } ≡ remainder f κ x y
  unfolding finish
  kept_answer κ word l =
      let own = written_read f r x (normal_value f x) word normal_ordinary (normal_class f x nx) in
      sym (normals_answer f κ x y nx ny ∙ ap (λ (o : Outcome). answer_of f o.value o.whole) (kept_value κ l) ∙ (λ i. record { number = 0; value = own i; quotient = 0 }))
