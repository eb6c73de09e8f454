-- What is shown of a quotient, from a dividend that is known modulo the divisor alone. Assumes nothing.
use Rattle.std.proofs.Common.{◌≡◌, ℕ, ◌+◌, ◌-◌, ◌*◌, ◌/◌, ◌%◌, ◌^◌, ◌<◌, ◌≤◌, sym, refl, ap, ◌∙◌, div-add-mod', arith, pow_pos, pow-add}
use native.Mathlib.Nat.{add-mul-div_right, add-mul-mod_self_right, mul-div-mul_right}
use Rattle.digits.proofs.Common.{unique_div, unique_mod, mod_scale, mod_times, shift_shift}
use Rattle.division.specs.declared.Divided.{Divided}
use Rattle.prepared.specs.Prepared.{Shows, shown_of}

-- a dividend t times n, t being a multiple of 8, shows what t times the remainder of n shows
module _ (n m t u : ℕ) (some : 0 < m) (eight : t ≡ u * 8) where
  reduced : n * t ≡ n % m * t + n / m * u * 8 * m
  reduced =
      let e = ap (λ (k : ℕ). k * t) (div-add-mod' n m) in
      let f = ap (λ (k : ℕ). n / m * m * k) eight in
      omega arith

  reduced_quotient : n * t / m % 8 ≡ n % m * t / m % 8
  reduced_quotient =
      ap (λ (k : ℕ). k / m % 8) reduced ∙ ap (λ (k : ℕ). k % 8) (add-mul-div_right (n % m * t) (n / m * u * 8) some)
      ∙ add-mul-mod_self_right (n % m * t / m) (n / m * u) 8

-- so two that leave the same show the same
pub shows_same : (n k m s q r : ℕ) → 0 < m → 3 ≤ s → n % m ≡ k % m → q * m + r ≡ k * 2 ^ s → Shows (n * 2 ^ s) m q r
shows_same n k m s q r some long same is =
    let f : s - 3 + 3 ≡ s = omega arith in
    let eight : 2 ^ s ≡ 2 ^ (s - 3) * 8 = sym (ap (λ (i : ℕ). 2 ^ i) f) ∙ pow-add 2 (s - 3) 3 in
    rw is (
      sym (mod_times n (2 ^ s) m) ∙ ap (λ (i : ℕ). i * 2 ^ s % m) same ∙ mod_times k (2 ^ s) m,
      reduced_quotient n m (2 ^ s) (2 ^ (s - 3)) some eight ∙ ap (λ (i : ℕ). i * 2 ^ s / m % 8) same ∙ sym (reduced_quotient k m (2 ^ s) (2 ^ (s - 3)) some eight),
    )

pub shows_itself : (n m q r : ℕ) → q * m + r ≡ n → Shows n m q r
shows_itself n m q r is = rw is (refl, refl)

-- two shifts are one
pub shows_shifted : (a i j places m q r : ℕ) → i + j ≡ places → Shows (a * 2 ^ i * 2 ^ j) m q r → Shows (a * 2 ^ places) m q r
shows_shifted a i j places m q r e s = rw (← e, ← shift_shift a i j) s

-- the divisor that a left-over may have too much, taken off
module _ (n m q r : ℕ) (s : Shows n m q r) where
  abbrev pub answer : ℕ → ℕ → Divided
  answer o w = record { remainder = (r - m * o) * 2 ^ 11; quotient = w % 8 }

  pub settled : (o w : ℕ) → m * o ≤ r → r - m * o < m → w ≡ (q + o) % 2 ^ 64 → answer o w ≡ record { remainder = n % m * 2 ^ 11; quotient = n / m % 8 }
  settled o w fits under ew =
      let is : q * m + r ≡ (q + o) * m + (r - m * o) = regroup q m r o fits in
      let rem : r - m * o ≡ n % m = sym (s.0 ∙ unique_mod (q * m + r) (q + o) (r - m * o) m under is) in
      let quo : (q + o) % 8 ≡ n / m % 8 = sym (s.1 ∙ ap (λ (k : ℕ). k % 8) (unique_div (q * m + r) (q + o) (r - m * o) m under is)) in
      let low : w % 8 ≡ n / m % 8 = lows (q + o) w ew ∙ quo in
      (λ i. record { remainder = rem i * 2 ^ 11; quotient = low i })
    where
      regroup : (q m r o : ℕ) → m * o ≤ r → q * m + r ≡ (q + o) * m + (r - m * o)
      regroup q m r o h = omega arith

      lows : (k w : ℕ) → w ≡ k % 2 ^ 64 → w % 8 ≡ k % 8
      lows k w e = omega arith

-- with the spare bits
pub spread_shown : (a c m places : ℕ) → 0 < m → a ≡ c * 2 ^ 11
    → ◌≡◌ {A = Divided} (record { remainder = c * 2 ^ places % m * 2 ^ 11; quotient = c * 2 ^ places / m % 8 }) (shown_of a (m * 2 ^ 11) places)
spread_shown a c m places some is =
    let e : a * 2 ^ places ≡ c * 2 ^ places * 2 ^ 11 = ap (λ (k : ℕ). k * 2 ^ places) is ∙ swap c (2 ^ 11) (2 ^ places) in
    rw (e, mod_scale (c * 2 ^ places) m (2 ^ 11) some (pow_pos 11), mul-div-mul_right (c * 2 ^ places) m (pow_pos 11))
  where
    swap : (c u v : ℕ) → c * u * v ≡ c * v * u
    swap c u v = omega arith
