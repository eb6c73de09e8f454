-- What the code finds on 64-bit words, as the guess of a quotient. Assumes nothing.
use Rattle.std.proofs.Common.{◌≡◌, ℕ, ◌+◌, ◌-◌, ◌*◌, ◌/◌, ◌%◌, ◌^◌, ◌<◌, ◌≤◌, ◌⊎◌, sym, refl, ◌∙◌, inl, ⊎_elim, lt_trans, le_refl, lt_of_lt_of_le, lt_of_le_of_lt, lt_irrefl, mod-lt, lt_of_mul-lt-mul_right, div-mul-le_self, arith, pow_pos}
use lib.Arith.{digits_mod}
use Rattle.reciprocals.specs.Reciprocal.{inverse_of, quotient_of, Guess}
use Rattle.reciprocals.specs.declared.Quotient.{Quotient}
use Rattle.reciprocals.proofs.Guess.{bare_twice, bare_rest}
use Rattle.reciprocals.proofs.Quotients.{inverse, inverse_left, many_right, few_right, side, wrapped, guess, total, whole_fits, rest_many, rest_right, carry_some, carry_none, next_product}

-- the sum hi * v + lo, split, is the sum with the reciprocal's leading one
lift : (word hi v lo h f : ℕ) → hi * v + lo ≡ h * word + f → hi * (word + v) + lo ≡ (h + hi) * word + f
lift word hi v lo h f e = omega arith

module _ (p lo fraction : ℕ) (ef : fraction ≡ (p % 2 ^ 64 + lo) % 2 ^ 64) (lw : lo < 2 ^ 64) where
  -- with the carry, where the low words' sum wrapped
  pub carried : (whole : ℕ) → ((fraction < lo) × (whole ≡ p / 2 ^ 64 + 1)) ⊎ ((lo ≤ fraction) × (whole ≡ p / 2 ^ 64)) → p + lo ≡ whole * 2 ^ 64 + fraction
  carried whole =
      ⊎_elim
      (λ w. rw w.1 (carry_some p lo fraction ef lw w.0))
      (λ w. rw w.1 (carry_none p lo fraction ef lw w.0))

module _ (base d v hi lo whole fraction : ℕ) (top : 2 ^ 63 ≤ d) (word : d < 2 ^ 64) (some : 0 < base) (scale : base ≤ 2 ^ 64)
    (is : v ≡ inverse_of (2 ^ 64) base d) (under : hi < d) (low : lo < base)
    (sum : hi * (base + v) + lo ≡ whole * 2 ^ 64 + fraction) (part : fraction < 2 ^ 64) where
  pub found : (next taken rest : ℕ) → next ≡ (whole + 1) % 2 ^ 64 → taken ≡ next * d % 2 ^ 64 → (rest + taken) % 2 ^ 64 ≡ (hi * base + lo) % 2 ^ 64 → rest < 2 ^ 64
      → Guess (2 ^ 64) (hi * base + lo) d whole fraction rest
  found next taken rest en et er rw' =
      let e = next_product taken next whole d en et in
      let wraps : (rest + (whole * d + d) % 2 ^ 64) % 2 ^ 64 ≡ (hi * base + lo) % 2 ^ 64 = rw (← e) er in
      guess (2 ^ 64) base d v hi lo word (omega arith) scale is under low whole fraction rest sum part (omega arith)
      (λ left h i. rest_many (whole * d) d left (hi * base + lo) rest wraps i rw' word h)
      (λ left h l i. rest_right (whole * d) d left (hi * base + lo) rest wraps i rw' word h l)

-- the same of two words, where the reciprocal's leading one adds hi itself
module _ (hi v lo fraction : ℕ) (ef : fraction ≡ (hi * v % 2 ^ 64 + lo) % 2 ^ 64) (lw : lo < 2 ^ 64) where
  pub carried_up : (whole : ℕ) → ((fraction < lo) × (whole ≡ hi * v / 2 ^ 64 + hi + 1)) ⊎ ((lo ≤ fraction) × (whole ≡ hi * v / 2 ^ 64 + hi))
      → hi * (2 ^ 64 + v) + lo ≡ whole * 2 ^ 64 + fraction
  carried_up whole =
      ⊎_elim
      (λ w.
      let e : hi * v / 2 ^ 64 + hi + 1 ≡ hi * v / 2 ^ 64 + 1 + hi = omega arith in
      rw (w.1, e) (lift (2 ^ 64) hi v lo (hi * v / 2 ^ 64 + 1) fraction (carry_some (hi * v) lo fraction ef lw w.0)))
      (λ w. rw w.1 (lift (2 ^ 64) hi v lo (hi * v / 2 ^ 64) fraction (carry_none (hi * v) lo fraction ef lw w.0)))

up_fits : (word hi v lo : ℕ) → hi * (word + v) + lo < word * word → hi * v / word + hi < word
up_fits word hi v lo h = lt_of_mul-lt-mul_right word {m = hi * v / word + hi} {n = word} (omega (arith, div-mul-le_self (hi * v) word))

module _ (d v hi lo : ℕ) (top : 2 ^ 63 ≤ d) (word : d < 2 ^ 64) (is : v ≡ inverse_of (2 ^ 64) (2 ^ 64) d) (under : hi < d) (lw : lo < 2 ^ 64) where
  pub plain_fits : hi * v / 2 ^ 64 + hi < 2 ^ 64
  plain_fits = up_fits (2 ^ 64) hi v lo (total (2 ^ 64) (2 ^ 64) d v hi lo word (omega arith) (omega arith) is under lw)

  pub carry_fits : (fraction : ℕ) → fraction ≡ (hi * v % 2 ^ 64 + lo) % 2 ^ 64 → fraction < lo → hi * v / 2 ^ 64 + hi + 1 < 2 ^ 64
  carry_fits fraction ef h =
      let whole = hi * v / 2 ^ 64 + hi + 1 in
      let sum = carried_up hi v lo fraction ef lw whole (inl (h, refl)) in
      whole_fits (2 ^ 64) (2 ^ 64) d v hi lo word (omega arith) (omega arith) is under lw whole fraction 0 sum (omega arith)

-- half a word below, shifted in
pub half_fits : (hi lo : ℕ) → lo < 2 ^ 32 → hi * 2 ^ 32 % 2 ^ 64 + lo < 2 ^ 64
half_fits hi lo h = omega arith

pub half_word : (hi lo : ℕ) → lo < 2 ^ 32 → hi * 2 ^ 32 % 2 ^ 64 + lo ≡ (hi * 2 ^ 32 + lo) % 2 ^ 64
half_word hi lo h = omega arith

pub half_carry : (d x hi lo : ℕ) → 2 ^ 63 ≤ d → d < 2 ^ 64 → x ≡ 2 ^ 32 + inverse_of (2 ^ 64) (2 ^ 32) d → hi < d → lo < 2 ^ 32
    → (fraction : ℕ) → fraction ≡ (hi * x % 2 ^ 64 + lo) % 2 ^ 64 → fraction < lo → hi * x / 2 ^ 64 + 1 < 2 ^ 64
half_carry d x hi lo top word is under low fraction ef h =
    let v = inverse_of (2 ^ 64) (2 ^ 32) d in
    let whole = hi * x / 2 ^ 64 + 1 in
    let sum : hi * (2 ^ 32 + v) + lo ≡ whole * 2 ^ 64 + fraction = rw (← is) (carried (hi * x) lo fraction ef (omega arith) whole (inl (h, refl))) in
    let f = whole_fits (2 ^ 64) (2 ^ 32) d v hi lo word (omega arith) (omega arith) refl under low whole fraction 0 sum (omega arith) in
    omega arith

beyond : (left d fraction rest : ℕ) → rest + d ≡ left → left < fraction + d + 1 → fraction < rest → ⊥
beyond left d fraction rest e l f = omega arith

once : (left d rest : ℕ) → rest + d ≡ left → left < d + d → rest < d
once left d rest e l = omega arith

-- where the lower word is zero: one correction
module _ (d v hi : ℕ) (top : 2 ^ 63 ≤ d) (word : d < 2 ^ 64) (is : v ≡ inverse_of (2 ^ 64) (2 ^ 64) d) (under : hi < d)
    (next taken rest : ℕ) (en : next ≡ (hi * v / 2 ^ 64 + hi + 1) % 2 ^ 64) (et : taken ≡ next * d % 2 ^ 64) (er : (rest + taken) % 2 ^ 64 ≡ 0) (rest_small : rest < 2 ^ 64) where
  abbrev whole : ℕ
  whole = hi * v / 2 ^ 64 + hi

  abbrev fraction : ℕ
  fraction = hi * v % 2 ^ 64

  sum : hi * (2 ^ 64 + v) + 0 ≡ whole * 2 ^ 64 + fraction
  sum = lift (2 ^ 64) hi v 0 (hi * v / 2 ^ 64) (hi * v % 2 ^ 64) (omega arith)

  part : fraction < 2 ^ 64
  part = mod-lt (hi * v) (pow_pos 64)

  g : Guess (2 ^ 64) (hi * 2 ^ 64 + 0) d whole fraction rest
  g =
      found (2 ^ 64) d v hi 0 whole fraction top word (pow_pos 64) (le_refl (2 ^ 64)) is under (pow_pos 64) sum part next taken rest en et
      (er ∙ sym (digits_mod hi (pow_pos 64))) rest_small

  inv : (2 ^ 64 + v) * d + ((2 ^ 64 * 2 ^ 64 - 1) % d + 1) ≡ 2 ^ 64 * 2 ^ 64
  inv = inverse (2 ^ 64) (2 ^ 64) d v word (lt_of_lt_of_le (pow_pos 63) top) (pow_pos 64) is

  inv_left : (2 ^ 64 * 2 ^ 64 - 1) % d + 1 ≤ d
  inv_left = inverse_left (2 ^ 64) (2 ^ 64) d v word (lt_of_lt_of_le (pow_pos 63) top) (pow_pos 64) is

  twice : g.left < d + d
  twice = bare_twice (2 ^ 64) (2 ^ 64) d (2 ^ 64 + v) ((2 ^ 64 * 2 ^ 64 - 1) % d + 1) hi 0 whole fraction inv sum word inv_left under (pow_pos 64) part g.left g.is refl

  bound : g.left < fraction + d + 1
  bound = bare_rest (2 ^ 64) (2 ^ 64) d (2 ^ 64 + v) ((2 ^ 64 * 2 ^ 64 - 1) % d + 1) hi 0 whole fraction inv sum word inv_left under (pow_pos 64) part g.left g.is refl

  pub bare_many : fraction < rest → ◌≡◌ {A = Quotient} (record { quotient = whole; remainder = (rest + d) % 2 ^ 64 }) (quotient_of (hi * 2 ^ 64 + 0) d)
  bare_many f = many_right (2 ^ 64) (hi * 2 ^ 64 + 0) d whole fraction rest g f under_d
    where
      under_d : (rest + d) % 2 ^ 64 < d
      under_d =
          ⊎_elim
          (λ (h : g.left < d). rw (wrapped (2 ^ 64) (rest + d) g.left (lt_trans h word) (g.many h).0) h)
          (λ (h : d ≤ g.left). let z : ⊥ = beyond g.left d fraction rest (g.right h).0 bound f in absurd z)
          (side g.left d)

  pub bare_few : rest ≤ fraction → ◌≡◌ {A = Quotient} (record { quotient = next; remainder = rest }) (quotient_of (hi * 2 ^ 64 + 0) d)
  bare_few f = rw en (few_right (2 ^ 64) (hi * 2 ^ 64 + 0) d whole fraction rest g f under_d)
    where
      under_d : rest < d
      under_d =
          ⊎_elim
          (λ (h : g.left < d). let z : ⊥ = lt_irrefl rest (lt_of_le_of_lt f (g.many h).1) in absurd z)
          (λ (h : d ≤ g.left). once g.left d rest (g.right h).0 twice)
          (side g.left d)
