-- A list that is filled from the front with f of another, place by place, and the count of the bad places passed. Assumes nothing.
use mathlib.Core.Path.{◌≡◌, refl, sym, ap, ◌∙◌}
use mathlib.Core.Bool.{cond}
use mathlib.Core.List.{List, [], ◌∷◌, ◌++◌, map, append-nil}
use Prim.Native.Nat.{ℕ, zero, suc, ◌+◌, ◌<◌}
use native.Mathlib.Nat.{not-suc-le-zero, le_of_suc-le-suc, le_refl}
use native.Mathlib.Numerals.{add-one}
use native.Mathlib.Omega.{arith}
use borrow.Author.Tests.{eq-eqb, ne_eqb}
use lib.ListN.{length, get_or, set, take, drop}
use lib.Seq.{take_all, drop-length}
use Rattle.definitions.specs.Fold.{bad, bad_places, byte_at}
use Rattle.definitions.specs.declared.Kind.{Kind}
use Rattle.laws.proofs.Fold.{marked_bad}

-- f of the first i, then what was there
abbrev pub front : (ℕ → ℕ) → List ℕ → List ℕ → ℕ → List ℕ
front f xs old i = map f (take i xs) ++ drop i old

-- one place more
pub front_more : (f : ℕ → ℕ) (xs old : List ℕ) (i : ℕ) → i < length xs → length old ≡ length xs
    → set (front f xs old i) i (f (get_or xs i 0)) ≡ front f xs old (suc i)
front_more f [] old i h e = absurd (not-suc-le-zero h)
front_more f (x ∷ xs) [] i h e = absurd (omega arith)
front_more f (x ∷ xs) (o ∷ os) zero h e = refl
front_more f (x ∷ xs) (o ∷ os) (suc i) h e =
    ap {B = List ℕ} (λ l. f x ∷ l) (front_more f xs os i (le_of_suc-le-suc h) (omega arith))

-- every place
pub front_all : (f : ℕ → ℕ) (xs old : List ℕ) (i : ℕ) → i ≡ length xs → length old ≡ length xs → front f xs old i ≡ map f xs
front_all f xs old i h e = rw (h, take_all (length xs) xs (le_refl (length xs)), ← e, drop-length old, append-nil (map f xs))

bad_more : (xs : List ℕ) (i : ℕ) → i < length xs → bad_places (take (suc i) xs) ≡ bad_places (take i xs) + cond (bad (get_or xs i 0)) 1 0
unfolding bad_places
bad_more [] i h = absurd (not-suc-le-zero h)
bad_more (x ∷ xs) zero h = omega arith
bad_more (x ∷ xs) (suc i) h = omega (arith, bad_more xs i (le_of_suc-le-suc h))

-- the count goes on by one exactly where the byte is 255
module _ (κ : Kind) (y : ℕ) (xs : List ℕ) (i m : ℕ) (h : i < length xs) (e : m ≡ bad_places (take i xs)) where
  pub count_marked : byte_at κ y (get_or xs i 0) ≡ 255 → m + 1 ≡ bad_places (take (i + 1) xs)
  count_marked b = rw (add-one i, bad_more xs i h, sym (marked_bad κ y (get_or xs i 0)) ∙ eq-eqb _ _ b) (omega arith)

  pub count_unmarked : (byte_at κ y (get_or xs i 0) ≡ 255 → ⊥) → m ≡ bad_places (take (i + 1) xs)
  count_unmarked b = rw (add-one i, bad_more xs i h, sym (marked_bad κ y (get_or xs i 0)) ∙ ne_eqb _ _ b) (omega arith)
