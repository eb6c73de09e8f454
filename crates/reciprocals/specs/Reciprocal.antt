-- Quotients of one and two words, and reciprocals. Nothing to believe: these only name the code's own values.
use Rattle.std.specs.Prelude.{◌≡◌, ℕ, ◌+◌, ◌-◌, ◌*◌, ◌/◌, ◌%◌, ◌^◌, ◌<◌, ◌≤◌}
use Rattle.reciprocals.specs.declared.Quotient.{Quotient}

abbrev pub quotient_of : ℕ → ℕ → Quotient
quotient_of n d = record { quotient = n / d; remainder = n % d }

-- the reciprocal of a divisor from half a word to below one, in parts of `base` words, without its leading one
unfoldable pub inverse_of : ℕ → ℕ → ℕ → ℕ
inverse_of word base d = (base * word - 1) / d - base

-- all 64 digits of it, and the upper 32
abbrev pub reciprocal_of : ℕ → ℕ
reciprocal_of d = inverse_of (2 ^ 64) (2 ^ 64) d

abbrev pub upper_of : ℕ → ℕ
upper_of d = inverse_of (2 ^ 64) (2 ^ 32) d

-- `whole` divisors leave `left` of n, and one divisor more leaves `rest`. Where that is too many the rest has wrapped, and passes the
-- fraction. Where it is not, and the rest passes the fraction all the same, the divisor put back is still below a word
pub record Guess (word n d whole fraction rest : ℕ) : Type 0 where
  pub left : ℕ
  pub is : whole * d + left ≡ n
  pub fits : n < word * d
  pub half : word ≤ d + d
  pub small : d < word
  pub many : left < d → (rest + d ≡ left + word) × (fraction < rest)
  pub right : d ≤ left → (rest + d ≡ left) × (fraction < rest → left < word)
