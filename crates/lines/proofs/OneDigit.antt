-- The number that a line shows has one digit. Assumes nothing.
use mathlib.Core.Bool.{Bool, true, false, cond, ◌||◌}
use Prim.Native.Nat.{ℕ, ◌≤◌}
use lib.Dec.{lit≤}
use Rattle.definitions.specs.declared.Kind.{Kind}
use Rattle.definitions.specs.Format.{Format, class_of}
use Rattle.definitions.specs.Numbers.{first, is_unsupported, is_nan, is_infinite, is_zero}
use Rattle.definitions.specs.Remainder.{remainder_of, remainder}

number_shown : (two three four five : Bool) → cond two 2 (cond three 3 (cond four 4 (cond five 5 0))) ≤ 9
number_shown true three four five = lit≤ tt
number_shown false true four five = lit≤ tt
number_shown false false true five = lit≤ tt
number_shown false false false true = lit≤ tt
number_shown false false false false = lit≤ tt

pub number_digit : (f : Format) (κ : Kind) (x y : ℕ) → (remainder f κ x y).number ≤ 9
unfolding remainder remainder_of first
number_digit f κ x y =
    let a = class_of f x in
    let b = class_of f y in
    number_shown (is_unsupported a || is_unsupported b) (is_nan a || is_nan b) (is_infinite a) (is_zero b)
