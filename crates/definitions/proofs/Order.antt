-- Every operation's list of checks follows the fixed order, whatever its operands. Assumes nothing.
use mathlib.Core.Path.{◌≡◌, refl}
use mathlib.Core.Bool.{Bool, true, false}
use mathlib.Core.List.{[], ◌∷◌, map}
use Prim.Native.Nat.{ℕ}
use Rattle.definitions.specs.Class.{Class}
use Rattle.definitions.specs.Numbers.{Check, check, fixed_order, follows, dividing}
use Rattle.definitions.specs.Reports.{Lent, stepping, running}
use Rattle.definitions.specs.Scale.{scaling, splitting}
use Rattle.definitions.specs.Fold.{folding}

abbrev any : ℕ → Check
any n = check n true

pub in_order : (lent : Lent) (size xs results quotients : ℕ) (x y : Class) (unfinished : Bool)
    → (follows (dividing x y) fixed_order ≡ true)
    × (follows (stepping lent size x y unfinished) fixed_order ≡ true)
    × (follows (running lent size x y unfinished) fixed_order ≡ true)
    × (follows (scaling x) fixed_order ≡ true)
    × (follows (splitting x) fixed_order ≡ true)
    × (follows (folding xs results quotients y) fixed_order ≡ true)
in_order lent size xs results quotients x y unfinished = (refl, refl, refl, refl, refl, refl)

-- what follows it: the whole order, any part of it; and what does not: numbers exchanged, one twice, one that is not in it
pub order_is_kept : (follows (map any (9 ∷ 6 ∷ 2 ∷ 3 ∷ 4 ∷ 5 ∷ 8 ∷ 7 ∷ 1 ∷ [])) fixed_order ≡ true)
    × (follows (map any (2 ∷ 8 ∷ [])) fixed_order ≡ true)
    × (follows (map any (3 ∷ 2 ∷ [])) fixed_order ≡ false)
    × (follows (map any (1 ∷ 7 ∷ [])) fixed_order ≡ false)
    × (follows (map any (4 ∷ 4 ∷ [])) fixed_order ≡ false)
    × (follows (map any (0 ∷ [])) fixed_order ≡ false)
order_is_kept = (refl, refl, refl, refl, refl, refl)
