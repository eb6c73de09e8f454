-- A prepared divisor, and powers of two modulo it. Nothing to believe: these only name the code's own values.
use Rattle.std.specs.Prelude.{◌≡◌, ℕ, ◌+◌, ◌-◌, ◌*◌, ◌/◌, ◌%◌, ◌^◌, ◌<◌, ◌≤◌, List, length, slice_index}
use Rattle.division.specs.declared.Divided.{Divided}

-- k is 2 ^ (58 * j) modulo m, or one m more
abbrev pub Power : ℕ → ℕ → ℕ → Type 0
Power m j k = (k < m + m) × (k % m ≡ 2 ^ (58 * j) % m)

-- a table of 36 places that holds the first n of them
pub record Powers (m n : ℕ) (table : List ℕ) : Type 0 where
  pub room : length table ≡ 36
  pub some : 1 ≤ n
  pub fits : n ≤ 36
  pub at : (j : ℕ) → j < n → Power m j (slice_index table j)

-- the power that a number of places starts from
abbrev pub slot_of : ℕ → ℕ
slot_of places = (places - 4) / 58

-- n and q * m + r leave the same by m, and the same is shown of their quotients
abbrev pub Shows : ℕ → ℕ → ℕ → ℕ → Type 0
Shows n m q r = (n % m ≡ (q * m + r) % m) × (n / m % 8 ≡ (q * m + r) / m % 8)

-- a × 2 ^ places by b: the remainder, and what is shown of the quotient
abbrev pub shown_of : ℕ → ℕ → ℕ → Divided
shown_of a b places = record { remainder = a * 2 ^ places % b; quotient = a * 2 ^ places / b % 8 }
