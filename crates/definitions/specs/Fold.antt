-- Folding of a list of binary64 patterns by one divisor. Definitions only.
use Rattle.std.specs.Prelude.{ℕ, ◌+◌, Bool, not, cond, ◌&&◌, ◌||◌, List, [], ◌∷◌, map, eqb, length}
use Rattle.definitions.specs.Class.{Class}
use Rattle.definitions.specs.Format.{class_of, binary64}
use Rattle.definitions.specs.Numbers.{Check, check, first, is_nan, is_infinite, is_zero}
use Rattle.definitions.specs.declared.Kind.{Kind}
use Rattle.definitions.specs.Remainder.{remainder, shown}

-- [8.2] what a divisor is refused for, for the whole list
abbrev pub dividing_list : Class → List Check
dividing_list y = check 3 (is_nan y) ∷ check 5 (is_zero y) ∷ []

-- [7.3, 8.1] the lengths are looked at before it
abbrev pub folding : ℕ → ℕ → ℕ → Class → List Check
folding xs results quotients y = check 9 (not (eqb results xs && eqb quotients xs)) ∷ dividing_list y

-- [8.4] a dividend that is marked
abbrev pub bad : ℕ → Bool
bad x = is_nan (class_of binary64 x) || is_infinite (class_of binary64 x)

-- [8.3, 8.4] what a place gets: the remainder, the NaN that its dividend is, or the house NaN for an infinity; and the byte
unfoldable pub result_at : Kind → ℕ → ℕ → ℕ
result_at κ y x = (remainder binary64 κ x y).value

unfoldable pub byte_at : Kind → ℕ → ℕ → ℕ
byte_at κ y x = cond (bad x) 255 (shown (remainder binary64 κ x y).quotient)

-- [8.4] how many are
unfoldable pub bad_places : List ℕ → ℕ
bad_places [] = 0
bad_places (x ∷ xs) = cond (bad x) 1 0 + bad_places xs

-- what the lent memory holds later, and what the call answers
pub record Folded : Type 0 where
  pub number : ℕ
  pub results : List ℕ
  pub quotients : List ℕ
  pub marked : ℕ

unfoldable pub fold_list : Kind → ℕ → List ℕ → List ℕ → List ℕ → Folded
unfolding first result_at byte_at bad_places
fold_list κ y xs results quotients =
    let n = first (folding (length xs) (length results) (length quotients) (class_of binary64 y)) in
    record {
      number = n;
      results = cond (eqb n 0) (map (result_at κ y) xs) results;
      quotients = cond (eqb n 0) (map (byte_at κ y) xs) quotients;
      marked = cond (eqb n 0) (bad_places xs) 0;
    }
