-- Numbers, and the checks that give them. Definitions only.
use Rattle.std.specs.Prelude.{ℕ, Bool, true, false, cond, ◌||◌, List, [], ◌∷◌, eqb}
use Rattle.definitions.specs.Class.{Class, unsupported, nan, infinite, finite}

-- [7.1] a number, and when it is given. Every operation lists its own checks.
pub record Check : Type 0 where
  pub number : ℕ
  pub test : Bool

abbrev pub check : ℕ → Bool → Check
check n t = record { number = n; test = t }

-- [7.3] the first that applies; 0 where none does
unfoldable pub first : List Check → ℕ
first [] = 0
first (c ∷ cs) = cond c.test c.number (first cs)

-- [7.3] the order of the checks of operations on patterns; every list of theirs follows it (`in_order`)
abbrev pub fixed_order : List ℕ
fixed_order = 9 ∷ 6 ∷ 2 ∷ 3 ∷ 4 ∷ 5 ∷ 8 ∷ 7 ∷ 1 ∷ []

-- whether the numbers of a list of checks stand in an order, none of them twice
abbrev pub follows : List Check → List ℕ → Bool
follows [] ns = true
follows (c ∷ cs) [] = false
follows (c ∷ cs) (n ∷ ns) = cond (eqb c.number n) (follows cs ns) (follows (c ∷ cs) ns)

-- [7.2] answers and refusals
abbrev pub accepted : ℕ → Bool
accepted n = eqb n 0 || eqb n 1 || eqb n 7

-- the tests on operands
abbrev pub is_unsupported : Class → Bool
is_unsupported unsupported = true
is_unsupported (nan n s) = false
is_unsupported (infinite n) = false
is_unsupported (finite v) = false

abbrev pub is_nan : Class → Bool
is_nan unsupported = false
is_nan (nan n s) = true
is_nan (infinite n) = false
is_nan (finite v) = false

abbrev pub is_infinite : Class → Bool
is_infinite unsupported = false
is_infinite (nan n s) = false
is_infinite (infinite n) = true
is_infinite (finite v) = false

abbrev pub is_zero : Class → Bool
is_zero unsupported = false
is_zero (nan n s) = false
is_zero (infinite n) = false
is_zero (finite v) = eqb v.count 0

-- the checks of whatever divides x by y: one of them unsupported, one of them a NaN, the dividend infinite, the divisor zero
abbrev pub dividing : Class → Class → List Check
dividing x y = check 2 (is_unsupported x || is_unsupported y) ∷ check 3 (is_nan x || is_nan y) ∷ check 4 (is_infinite x) ∷ check 5 (is_zero y) ∷ []
