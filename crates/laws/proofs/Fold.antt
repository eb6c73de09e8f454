-- A folded list, place by place: what each place gets, how many are marked, and what a refused list leaves. Assumes nothing.
use mathlib.Core.Path.{◌≡◌, refl, sym, ◌∙◌}
use mathlib.Core.Bool.{Bool, true, false, cond, ◌&&◌}
use mathlib.Core.List.{List, [], ◌∷◌, map}
use Prim.Native.Nat.{ℕ, ◌+◌, ◌/◌, ◌%◌, ◌^◌, ◌<◌}
use native.Mathlib.Nat.{mod-lt}
use native.Mathlib.Omega.{arith}
use borrow.Author.Tests.{eq-eqb, ne_eqb}
use lib.Dec.{eqb, lit<}
use lib.ListN.{length}
use Rattle.digits.proofs.Tests.{clash}
use Rattle.definitions.specs.Class.{Value, Class, unsupported, nan, infinite, finite}
use Rattle.definitions.specs.Format.{binary64, class_of}
use Rattle.definitions.specs.Numbers.{first, is_unsupported, is_nan, is_zero}
use Rattle.definitions.specs.Facts.{refused_value}
use Rattle.definitions.specs.Remainder.{remainder, remainder_of, shown, shown_modulus}
use Rattle.definitions.specs.Fold.{Folded, bad, bad_places, byte_at, dividing_list, fold_list, result_at}
use Rattle.definitions.specs.declared.Kind.{Kind}
use Rattle.definitions.proofs.Refusals.{folding_numbers, supported}
use Rattle.laws.proofs.Regular.{regular64}
use Rattle.laws.proofs.Nan.{quiet_bits, nan_alone}

-- [8.3, 8.4] what the place of the dividend x holds: its remainder and what is shown of the quotient, or the marks of a NaN, which is that NaN with its
-- digit 51, or of an infinity
pub data Place (κ : Kind) (y x result byte : ℕ) : Type 0 where
  folded : (v : Value) (q : ℕ) → class_of binary64 x ≡ finite v → remainder binary64 κ x y ≡ record { number = 0; value = result; quotient = q } → byte ≡ shown q
      → Place κ y x result byte
  nan_marked : (n : Bool) (s : ℕ) → class_of binary64 x ≡ nan n s → (x < 2 ^ 64 → result ≡ cond (eqb (x / 2 ^ 51 % 2) 1) x (x + 2 ^ 51)) → byte ≡ 255
      → Place κ y x result byte
  infinity_marked : (s : Bool) → class_of binary64 x ≡ infinite s → result ≡ 0x7FF8000000000000 → byte ≡ 255 → Place κ y x result byte

-- the same of every place of three lists, which are so of one length
pub data Places (κ : Kind) (y : ℕ) : List ℕ → List ℕ → List ℕ → Type 0 where
  none : Places κ y [] [] []
  more : {x result byte : ℕ} {xs results bytes : List ℕ} → Place κ y x result byte → Places κ y xs results bytes
      → Places κ y (x ∷ xs) (result ∷ results) (byte ∷ bytes)

-- [8.4] how many bytes are the mark
abbrev pub marks : List ℕ → ℕ
marks [] = 0
marks (b ∷ bs) = cond (eqb b 255) 1 0 + marks bs

-- the divisor of an accepted list
abbrev Divides : Class → Type 0
Divides y = (is_nan y ≡ false) × (is_zero y ≡ false)

passed : (equal : Bool) (y : Class) → cond equal (first (dividing_list y)) 9 ≡ 0 → Divides y
unfolding first
passed equal y = go equal (is_nan y) (is_zero y)
  where
    go : (l n z : Bool) → ◌≡◌ {A = ℕ} (cond l (cond n 3 (cond z 5 0)) 9) 0 → (n ≡ false) × (z ≡ false)
    go false n z e = absurd (omega arith)
    go true true z e = absurd (omega arith)
    go true false true e = absurd (omega arith)
    go true false false e = (refl, refl)

-- no quotient that is shown is the mark
pub quotient_shown : (q : ℕ) → shown q < shown_modulus
quotient_shown q = mod-lt q (lit< tt)

-- ---- one place

module _ (κ : Kind) (y x : ℕ) where
  placed : Divides (class_of binary64 y) → Place κ y x (result_at κ y x) (byte_at κ y x)
  unfolding result_at byte_at remainder remainder_of first refused_value
  placed d = go (class_of binary64 x) refl (supported binary64 refl x)
    where
      go : (c : Class) → class_of binary64 x ≡ c → is_unsupported c ≡ false → Place κ y x (result_at κ y x) (byte_at κ y x)
      go unsupported e u = clash (cc)
      go (nan n s) e u = nan_marked n s e (λ h. rw (e, supported binary64 refl y) (nan_alone binary64 regular64 (class_of binary64 y) n s d.0 ∙ quiet_bits binary64 regular64 x n s h e)) (rw e)
      go (infinite s) e u = infinity_marked s e (rw (e, supported binary64 refl y, d.0)) (rw e)
      go (finite v) e u = folded v (remainder binary64 κ x y).quotient e (rw (e, supported binary64 refl y, d.0, d.1)) (rw e)

  -- the mark stands at the bad dividends alone
  pub marked_bad : eqb (byte_at κ y x) 255 ≡ bad x
  unfolding byte_at
  marked_bad = go (bad x) _ (quotient_shown _)
    where
      go : (b : Bool) (q : ℕ) → q < shown_modulus → eqb (cond b 255 q) 255 ≡ b
      go true q h = refl
      go false q h = ne_eqb q 255 (λ e. omega arith)

-- ---- all places

module _ (κ : Kind) (y : ℕ) where
  all_placed : (xs : List ℕ) → Divides (class_of binary64 y) → Places κ y xs (map (result_at κ y) xs) (map (byte_at κ y) xs)
  all_placed [] d = none
  all_placed (x ∷ xs) d = more (placed κ y x d) (all_placed xs d)

  all_marked : (xs : List ℕ) → bad_places xs ≡ marks (map (byte_at κ y) xs)
  unfolding bad_places
  all_marked [] = refl
  all_marked (x ∷ xs) = rw (marked_bad κ y x, all_marked xs)

-- ---- the list

module _ (κ : Kind) (y : ℕ) (xs results quotients : List ℕ) where
  abbrev whole : Folded
  whole = fold_list κ y xs results quotients

  -- whether results and quotients are as many as the dividends
  abbrev pub equal : Bool
  equal = eqb (length results) (length xs) && eqb (length quotients) (length xs)

  number_is : whole.number ≡ cond equal (first (dividing_list (class_of binary64 y))) 9
  unfolding fold_list
  number_is = folding_numbers (length xs) (length results) (length quotients) (class_of binary64 y)

  -- [8.1] unequal lengths are 9
  pub fold_unequal : equal ≡ false → whole.number ≡ 9
  fold_unequal e = number_is ∙ rw e

  -- [8.2] otherwise the number is the divisor's, whatever the dividends
  pub fold_divisor : length results ≡ length xs → length quotients ≡ length xs → whole.number ≡ first (dividing_list (class_of binary64 y))
  fold_divisor r q = number_is ∙ rw (eq-eqb _ _ r, eq-eqb _ _ q)

  -- [8.3, 8.4] an accepted list has at each place what its dividend gets
  pub fold_places_lem : whole.number ≡ 0 → Places κ y xs whole.results whole.quotients
  unfolding fold_list
  fold_places_lem e = rw e (all_placed κ y xs (passed equal (class_of binary64 y) (sym number_is ∙ e)))

  -- [8.4] and counts the marked ones
  pub fold_count : whole.number ≡ 0 → whole.marked ≡ marks whole.quotients
  unfolding fold_list
  fold_count e = rw e (all_marked κ y xs)

  -- [8.4] a refused one leaves both lists, and counts none
  pub fold_refused : eqb whole.number 0 ≡ false → whole ≡ record { number = whole.number; results = results; quotients = quotients; marked = 0 }
  unfolding fold_list
  fold_refused e = rw e
