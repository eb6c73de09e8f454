-- Quotients by a reciprocal, over any word. Assumes nothing.
use Rattle.std.proofs.Common.{◌≡◌, ℕ, ◌+◌, ◌-◌, ◌*◌, ◌/◌, ◌%◌, ◌^◌, ◌<◌, ◌≤◌, Bool, true, false, ltb, ◌⊎◌, sym, refl, ap, ◌∙◌, inl, inr, ⊎_elim, mul-le-mul_right, mod-lt, mod-eq_of_lt, lt_of_mul-lt-mul_right, mul-le-mul_left, mul-pos, div-add-mod', le-div_iff_mul-le, arith, ltb-false, ltb-true}
use native.Mathlib.Nat.{add-mod_right, mod-add-mod}
use Rattle.digits.proofs.Common.{unique_div, unique_mod, mod_times}
use Rattle.reciprocals.specs.Reciprocal.{quotient_of, inverse_of, Guess}
use Rattle.reciprocals.specs.declared.Quotient.{Quotient}
use Rattle.reciprocals.proofs.Guess.{guess_le, too_many, rest_word, no_wrap}

pub unique : (n q r d : ℕ) → r < d → q * d + r ≡ n → ◌≡◌ {A = Quotient} (record { quotient = q; remainder = r }) (quotient_of n d)
unique n q r d h e = rw (unique_div n q r d h (sym e), unique_mod n q r d h (sym e))

pub side : (a b : ℕ) → (a < b) ⊎ (b ≤ a)
side a b = go (ltb a b) (ltb-true a b) (ltb-false a b)
  where
    go : (t : Bool) → (t ≡ true → a < b) → (t ≡ false → b ≤ a) → (a < b) ⊎ (b ≤ a)
    go true f g = inl (f refl)
    go false f g = inr (g refl)

-- a sum that wraps once
pub wrapped : (word s a : ℕ) → a < word → s ≡ a + word → s % word ≡ a
wrapped word s a h e = ap (λ (n : ℕ). n % word) e ∙ add-mod_right a word ∙ mod-eq_of_lt h

-- a guess is made right by at most two corrections
module _ (word n d whole fraction rest : ℕ) (g : Guess word n d whole fraction rest) where
  answer : (q r : ℕ) → r < d → q * d + r ≡ n → ◌≡◌ {A = Quotient} (record { quotient = q % word; remainder = r }) (quotient_of n d)
  answer q r h e =
      let l : q < word = lt_of_mul-lt-mul_right d {m = q} {n = word} (omega (arith, g.fits)) in
      rw (mod-eq_of_lt l) (unique n q r d h e)

  again : (m k : ℕ) → (m % word + k) % word ≡ (m + k) % word
  again m k = mod-add-mod m word k

  pub many_right : fraction < rest → (rest + d) % word < d
      → ◌≡◌ {A = Quotient} (record { quotient = whole; remainder = (rest + d) % word }) (quotient_of n d)
  many_right f l =
      ⊎_elim
      (λ (h : g.left < d).
      let e = wrapped word (rest + d) g.left (omega (arith, g.small)) (g.many h).0 in
      rw e (unique n whole g.left d h g.is))
      (λ (h : d ≤ g.left).
      let m = g.right h in
      let k = m.1 f in
      let e = mod-eq_of_lt {n = rest + d} {m = word} (omega arith) in
      let z : ⊥ = omega arith in
      absurd z)
      (side g.left d)

  pub many_wrong : fraction < rest → d ≤ (rest + d) % word
      → ◌≡◌ {A = Quotient} (record { quotient = (whole + 1) % word; remainder = (rest + d) % word - d }) (quotient_of n d)
  many_wrong f l =
      ⊎_elim
      (λ (h : g.left < d).
      let e = wrapped word (rest + d) g.left (omega (arith, g.small)) (g.many h).0 in
      let z : ⊥ = omega arith in
      absurd z)
      (λ (h : d ≤ g.left).
      let m = g.right h in
      let k = m.1 f in
      let s = mod-eq_of_lt {n = rest + d} {m = word} (omega arith) in
      let e : (rest + d) % word - d ≡ rest = omega arith in
      rw e (answer (whole + 1) rest (omega (arith, g.half)) (omega (arith, g.is))))
      (side g.left d)

  pub few_right : rest ≤ fraction → rest < d
      → ◌≡◌ {A = Quotient} (record { quotient = (whole + 1) % word; remainder = rest }) (quotient_of n d)
  few_right f l =
      ⊎_elim
      (λ (h : g.left < d). let m = g.many h in let z : ⊥ = omega arith in absurd z)
      (λ (h : d ≤ g.left). let m = g.right h in answer (whole + 1) rest l (omega (arith, g.is)))
      (side g.left d)

  pub few_wrong : rest < word → rest ≤ fraction → d ≤ rest
      → ◌≡◌ {A = Quotient} (record { quotient = ((whole + 1) % word + 1) % word; remainder = rest - d }) (quotient_of n d)
  few_wrong w f l =
      ⊎_elim
      (λ (h : g.left < d). let m = g.many h in let z : ⊥ = omega arith in absurd z)
      (λ (h : d ≤ g.left).
      let m = g.right h in
      rw again (answer (whole + 1 + 1) (rest - d) (omega (arith, g.half)) (omega (arith, g.is))))
      (side g.left d)

-- the reciprocal, as the guess needs it
module _ (word base d v : ℕ) (small : d < word) (some : 0 < d) (scale : 0 < base) (is : v ≡ inverse_of word base d) where
  reaches : base ≤ (base * word - 1) / d
  reaches =
      let l = mul-le-mul_left base small in
      (le-div_iff_mul-le {k = d} {x = base} {y = base * word - 1} some).1 (omega arith)

  pub inverse_is : base + v ≡ (base * word - 1) / d
  unfolding inverse_of
  inverse_is = omega (arith, reaches, is)

  pub inverse : (base + v) * d + ((base * word - 1) % d + 1) ≡ base * word
  inverse =
      let p = mul-pos {m = base} {n = word} scale (omega arith) in
      rw inverse_is (omega (arith, div-add-mod' (base * word - 1) d))

  pub inverse_left : (base * word - 1) % d + 1 ≤ d
  inverse_left = let h = mod-lt (base * word - 1) {m = d} some in omega arith

-- hi * x + lo in whole words and a fraction, x = base + v being the reciprocal of d: the sum is below base words
module _ (word base d v hi lo : ℕ) (small : d < word) (some : 0 < d) (scale : base ≤ word) (is : v ≡ inverse_of word base d)
    (under : hi < d) (low : lo < base) where
  pub total : hi * (base + v) + lo < base * word
  total =
      let e = inverse word base d v small some (omega arith) is in
      let m = mul-le-mul_right (base + v) under in
      omega (arith, e, m)

  room : hi * base + lo < word * d
  room =
      let m = mul-le-mul_right base under in
      let k = mul-le-mul_left d scale in
      omega arith

  -- the guess, from a sum that was split and the rest that was found
  module _ (whole fraction rest : ℕ) (sum : hi * (base + v) + lo ≡ whole * word + fraction) (part : fraction < word) where
    pub whole_fits : whole < base
    whole_fits = lt_of_mul-lt-mul_right word {m = whole} {n = base} (omega (arith, total))

    pub left_is : whole * d + (hi * base + lo - whole * d) ≡ hi * base + lo
    left_is =
        let l = guess_le word base d (base + v) ((base * word - 1) % d + 1) hi lo whole fraction (inverse word base d v small some (omega arith) is) sum small
        (inverse_left word base d v small some (omega arith) is) under (omega arith) part
        in
        omega arith

    pub guess : word ≤ d + d
        → ((left : ℕ) → left < d → whole * d + left ≡ hi * base + lo → rest + d ≡ left + word)
        → ((left : ℕ) → d ≤ left → left < word + d → whole * d + left ≡ hi * base + lo → rest + d ≡ left)
        → Guess word (hi * base + lo) d whole fraction rest
    guess half many right =
        let left = hi * base + lo - whole * d in
        let e = inverse word base d v small some (omega arith) is in
        let k = (base * word - 1) % d + 1 in
        let kd = inverse_left word base d v small some (omega arith) is in
        let lw : lo < word = omega arith in
        let t = too_many word base d (base + v) k hi lo whole fraction e sum small kd under lw part left left_is in
        let w = rest_word word base d (base + v) k hi lo whole fraction e sum small kd under lw part left left_is in
        let z = no_wrap word base d (base + v) k hi lo whole fraction e sum small kd under lw part left left_is in
        record {
          left = left;
          is = left_is;
          fits = room;
          half = half;
          small = small;
          many = λ h. let r = many left h left_is in let f = t h in (r, omega arith);
          right = λ h. let r = right left h w left_is in (r, λ f. z (omega arith));
        }

-- the wrapped rest of one divisor more than the guess
module _ (p d left n rest : ℕ) (wraps : (rest + (p + d) % 2 ^ 64) % 2 ^ 64 ≡ n % 2 ^ 64) (is : p + left ≡ n) (word : rest < 2 ^ 64) (small : d < 2 ^ 64) where
  pub rest_many : left < d → rest + d ≡ left + 2 ^ 64
  rest_many h = omega arith

  pub rest_right : d ≤ left → left < 2 ^ 64 + d → rest + d ≡ left
  rest_right h l = omega arith

-- a product's low word with a word added: whether it carries
module _ (p lo f : ℕ) (wraps : f ≡ (p % 2 ^ 64 + lo) % 2 ^ 64) (low : lo < 2 ^ 64) where
  pub carry_some : f < lo → p + lo ≡ (p / 2 ^ 64 + 1) * 2 ^ 64 + f
  carry_some h = omega arith

  pub carry_none : lo ≤ f → p + lo ≡ p / 2 ^ 64 * 2 ^ 64 + f
  carry_none h = omega arith

-- the low word of one divisor more than the guess
pub next_product : (t w whole d : ℕ) → w ≡ (whole + 1) % 2 ^ 64 → t ≡ w * d % 2 ^ 64 → t ≡ (whole * d + d) % 2 ^ 64
next_product t w whole d ew et =
    let e : (whole + 1) * d ≡ whole * d + d = omega arith in
    et ∙ ap (λ (n : ℕ). n * d % 2 ^ 64) ew ∙ mod_times (whole + 1) d (2 ^ 64) ∙ ap (λ (n : ℕ). n % 2 ^ 64) e
