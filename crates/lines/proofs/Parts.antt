-- Parts of a list. Assumes nothing.
use mathlib.Core.Path.{◌≡◌, ap, ◌∙◌}
use mathlib.Core.List.{List, [], ◌∷◌, ◌++◌}
use Prim.Native.Nat.{ℕ, suc, ◌+◌, ◌-◌, ◌≤◌, ◌<◌}
use native.Mathlib.Nat.{le_refl}
use native.Mathlib.Omega.{arith}
use lib.ListN.{length, get_or, take, drop, length-drop}
use lib.Seq.{take_all, take-suc, get_or-drop}

-- all that comes after a place
pub rest_whole : (b : ℕ) (l : List ℕ) → take (length l - b) (drop b l) ≡ drop b l
rest_whole b l = take_all (length l - b) (drop b l) (rw (length-drop b l) (le_refl _))

-- a part of a list, with one element more
pub part_more : (l : List ℕ) (b i : ℕ) → b ≤ i → i < length l → take (suc i - b) (drop b l) ≡ take (i - b) (drop b l) ++ (get_or l i 0 ∷ [])
part_more l b i h k =
    let n : suc i - b ≡ suc (i - b) = omega arith in
    let m : b + (i - b) ≡ i = omega arith in
    rw n
    (take-suc (drop b l) (i - b) 0 (rw (length-drop b l) (omega arith))
    ∙ ap (λ (c : ℕ). take (i - b) (drop b l) ++ (c ∷ [])) (get_or-drop b l (i - b) 0 ∙ ap (λ (j : ℕ). get_or l j 0) m))
