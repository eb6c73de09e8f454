-- The upper half of a reciprocal, by one division by the divisor's upper 33 digits. Assumes nothing.
use Rattle.std.proofs.Common.{◌≡◌, ℕ, zero, suc, ◌+◌, ◌-◌, ◌*◌, ◌/◌, ◌%◌, ◌^◌, ◌<◌, ◌≤◌, sym, ap, ◌∙◌, lt_of_lt_of_le, mod-lt, div-lt_iff_lt-mul, mul-le-mul, add_comm, div-add-mod', le-div_iff_mul-le, arith, pow_pos}
use Rattle.digits.proofs.Common.{unique_div, unique_mod}
use Rattle.reciprocals.specs.Reciprocal.{quotient_of, inverse_of, reciprocal_of, upper_of}
use Rattle.reciprocals.specs.declared.Quotient.{Quotient}
use Rattle.reciprocals.proofs.Quotients.{unique}

pub positive : (q l : ℕ) → 0 < q * l → 0 < q
positive zero l h = omega arith
positive (suc q) l h = omega arith

less : (q d : ℕ) → 0 < q → (q - 1) * d + d ≡ q * d
less (suc q) d h = let e : suc q - 1 ≡ q = omega arith in rw e (omega arith)
less zero d h = omega arith

-- d has u above its lower 31 digits l; t is n without its lower 31 digits, which are ones
module _ (d u l t n q r : ℕ) (split : d ≡ u * 2 ^ 31 + l) (digits : n ≡ t * 2 ^ 31 + (2 ^ 31 - 1)) (part : q * u + r ≡ t) where
  balance : n + q * l ≡ q * d + (r * 2 ^ 31 + (2 ^ 31 - 1))
  balance =
      let e = ap (λ (m : ℕ). q * m) split in
      let f = ap (λ (m : ℕ). m * 2 ^ 31) part in
      omega arith

  module _ (under : r < u) where
    below : r * 2 ^ 31 + (2 ^ 31 - 1) < d
    below = omega arith

    -- the guess is one too large, or right
    pub lowered : q * l ≤ d → r * 2 ^ 31 + (2 ^ 31 - 1) < q * l
        → ◌≡◌ {A = Quotient} (record { quotient = q - 1; remainder = d - (q * l - (r * 2 ^ 31 + (2 ^ 31 - 1))) }) (quotient_of n d)
    lowered s h =
        let some : 0 < q = positive q l (omega arith) in
        let e : (q - 1) * d + d ≡ q * d = less q d some in
        unique n (q - 1) (d - (q * l - (r * 2 ^ 31 + (2 ^ 31 - 1)))) d (omega arith) (omega (arith, balance))

    pub kept : q * l ≤ r * 2 ^ 31 + (2 ^ 31 - 1)
        → ◌≡◌ {A = Quotient} (record { quotient = q; remainder = r * 2 ^ 31 + (2 ^ 31 - 1) - q * l }) (quotient_of n d)
    kept h = unique n q (r * 2 ^ 31 + (2 ^ 31 - 1) - q * l) d (omega (arith, below)) (omega (arith, balance))

-- the same, as the code has it
module _ (d : ℕ) (top : 2 ^ 63 ≤ d) (word : d < 2 ^ 64) where
  abbrev pub above : ℕ
  above = 2 ^ 64 - 1 - d + (2 ^ 64 - 1 - d) + 1

  abbrev pub guessed : ℕ
  guessed = above / (d / 2 ^ 31)

  abbrev pub rests : ℕ
  rests = above % (d / 2 ^ 31)

  some : 0 < d / 2 ^ 31
  some = omega arith

  pub guess_small : guessed < 2 ^ 32
  guess_small = (div-lt_iff_lt-mul {k = d / 2 ^ 31} {x = above} {y = 2 ^ 32} some).1 (omega arith)

  pub rest_small : rests < d / 2 ^ 31
  rest_small = mod-lt above some

  pub taken_small : guessed * (d % 2 ^ 31) ≤ (2 ^ 32 - 1) * (2 ^ 31 - 1)
  taken_small = mul-le-mul {n₁ = guessed} {m₁ = d % 2 ^ 31} {n₂ = 2 ^ 32 - 1} {m₂ = 2 ^ 31 - 1} (omega (arith, guess_small)) (omega arith)

  splits : d ≡ d / 2 ^ 31 * 2 ^ 31 + d % 2 ^ 31
  splits = sym (div-add-mod' d (2 ^ 31))

  shape : 2 ^ 96 - 1 - 2 ^ 32 * d ≡ above * 2 ^ 31 + (2 ^ 31 - 1)
  shape = omega arith

  pub upper_lowered : rests * 2 ^ 31 + (2 ^ 31 - 1) < guessed * (d % 2 ^ 31)
      → ◌≡◌ {A = Quotient} (record { quotient = guessed - 1; remainder = d - (guessed * (d % 2 ^ 31) - (rests * 2 ^ 31 + (2 ^ 31 - 1))) }) (quotient_of (2 ^ 96 - 1 - 2 ^ 32 * d) d)
  upper_lowered h =
      lowered d (d / 2 ^ 31) (d % 2 ^ 31) above (2 ^ 96 - 1 - 2 ^ 32 * d) guessed rests splits shape (div-add-mod' above (d / 2 ^ 31)) rest_small (omega (arith, taken_small)) h

  pub upper_kept : guessed * (d % 2 ^ 31) ≤ rests * 2 ^ 31 + (2 ^ 31 - 1)
      → ◌≡◌ {A = Quotient} (record { quotient = guessed; remainder = rests * 2 ^ 31 + (2 ^ 31 - 1) - guessed * (d % 2 ^ 31) }) (quotient_of (2 ^ 96 - 1 - 2 ^ 32 * d) d)
  upper_kept h = kept d (d / 2 ^ 31) (d % 2 ^ 31) above (2 ^ 96 - 1 - 2 ^ 32 * d) guessed rests splits shape (div-add-mod' above (d / 2 ^ 31)) rest_small h

-- whole divisors taken off first
module _ (m b d : ℕ) (some : 0 < d) (room : b * d ≤ m) where
  off : (m / d - b) * d + m % d ≡ m - b * d
  off =
      let l : b ≤ m / d = (le-div_iff_mul-le some).1 room in
      let k = m / d - b in
      let e : k + b ≡ m / d = omega arith in
      let f = ap (λ (n : ℕ). n * d) e in
      omega (arith, div-add-mod' m d)

  pub off_div : (m - b * d) / d ≡ m / d - b
  off_div = unique_div (m - b * d) (m / d - b) (m % d) d (mod-lt m some) (sym off)

  pub off_mod : (m - b * d) % d ≡ m % d
  off_mod = unique_mod (m - b * d) (m / d - b) (m % d) d (mod-lt m some) (sym off)

-- the upper digits and the lower ones make the whole reciprocal
module _ (p b d u e y f : ℕ) (upper : (u + b) * d + e + 1 ≡ p) (lower : y * d + f + 1 ≡ e * b + b) (small : f < d) where
  pub joined : (p * b - 1) / d - b * b ≡ u * b + y
  joined =
      let g = ap (λ (n : ℕ). n * b) upper in
      let h : ((u + b) * b + y) * d + f ≡ p * b - 1 = omega arith in
      let q = unique_div (p * b - 1) ((u + b) * b + y) f d small (sym h) in
      omega arith

-- the reciprocal of a word, as the code makes it
module _ (d : ℕ) (top : 2 ^ 63 ≤ d) (word : d < 2 ^ 64) where
  abbrev number : ℕ
  number = 2 ^ 96 - 1 - 2 ^ 32 * d

  abbrev next : ℕ
  next = number % d * 2 ^ 32 + (2 ^ 32 - 1)

  pub some_d : 0 < d
  some_d = lt_of_lt_of_le (pow_pos 63) top

  pub upper_small : number / d < 2 ^ 32
  upper_small = (div-lt_iff_lt-mul {k = d} {x = number} {y = 2 ^ 32} some_d).1 (omega arith)

  pub upper_is : number / d + 2 ^ 32 ≡ 2 ^ 32 + upper_of d
  unfolding inverse_of
  upper_is = let e = off_div (2 ^ 96 - 1) (2 ^ 32) d some_d (omega arith) in add_comm (number / d) (2 ^ 32) ∙ ap (λ (n : ℕ). 2 ^ 32 + n) e

  pub lower_small : next / d < 2 ^ 32
  lower_small = let h = mod-lt number {m = d} some_d in (div-lt_iff_lt-mul {k = d} {x = next} {y = 2 ^ 32} some_d).1 (omega arith)

  pub whole_is : number / d * 2 ^ 32 + next / d ≡ reciprocal_of d
  unfolding inverse_of
  whole_is =
      sym
      (joined (2 ^ 96) (2 ^ 32) d (number / d) (number % d) (next / d) (next % d) (omega (arith, div-add-mod' number d)) (omega (arith, div-add-mod' next d))
      (mod-lt next some_d))
