-- What is told of operands, said once more: which of two NaNs, and denormal patterns. Assumes nothing.
use mathlib.Core.Path.{◌≡◌, refl}
use mathlib.Core.Bool.{Bool, true, false, not, cond, ◌&&◌, ◌||◌}
use mathlib.Core.List.{[], ◌∷◌, map}
use Prim.Native.Nat.{ℕ, ◌<◌, ◌≤◌}
use borrow.Author.Tests.{lt-ltb, le-ltb}
use lib.Dec.{ltb, eqb}
use lib.IntN.{ℤ}
use lib.Ieee.{size}
use Rattle.digits.proofs.Tests.{clash}
use Rattle.definitions.specs.Class.{Class, unsupported, nan, infinite, finite, gap}
use Rattle.definitions.specs.Format.{Format, binary16, binary32, binary64, x87, class_of, pattern_of, magnitude}
use Rattle.definitions.specs.Numbers.{first, dividing, is_unsupported, is_nan, is_infinite, is_zero}
use Rattle.definitions.specs.Facts.{chosen, nan_of, denormal, told_denormal}
use Rattle.definitions.specs.Division.{finish, dividend_of, divisor_of}
use Rattle.definitions.specs.Remainder.{remainder, remainder_of}
use Rattle.definitions.specs.Signed.{signed_remainder, signed_of}
use Rattle.definitions.specs.Steps.{step, run}
use Rattle.definitions.specs.Reports.{nothing, sized, step_report, run_report}
use Rattle.definitions.specs.Scale.{scaling, scale_report, scale_of, splitting, split_report, split_of}
use Rattle.definitions.specs.declared.Kind.{Kind}
use Rattle.definitions.specs.declared.Kind.TheVariants.{Truncated, Nearest}
use Rattle.definitions.proofs.Refusals.{call_numbers}

-- ---- [2.11] of two operands

-- a NaN, if there is one
pub chosen_nan : (x y : Class) → is_nan (chosen x y) ≡ is_nan x || is_nan y
chosen_nan unsupported y = refl
chosen_nan (nan m s) unsupported = refl
chosen_nan (nan m s) (nan n t) = go (ltb s t)
  where
    go : (b : Bool) → is_nan (cond b (nan n t) (nan m s)) ≡ true
    go true = refl
    go false = refl
chosen_nan (nan m s) (infinite n) = refl
chosen_nan (nan m s) (finite w) = refl
chosen_nan (infinite n) y = refl
chosen_nan (finite v) y = refl

-- one NaN, on either side
pub chosen_one : (x : Class) (n : Bool) (s : ℕ) → is_nan x ≡ false → (chosen x (nan n s) ≡ nan n s) × (chosen (nan n s) x ≡ nan n s)
chosen_one unsupported n s e = (refl, refl)
chosen_one (nan m t) n s e = clash (cc)
chosen_one (infinite m) n s e = (refl, refl)
chosen_one (finite v) n s e = (refl, refl)

-- two: the larger significand, and the dividend's if both are equal
pub chosen_two : (m n : Bool) (s t : ℕ) → (s < t → chosen (nan m s) (nan n t) ≡ nan n t) × (t ≤ s → chosen (nan m s) (nan n t) ≡ nan m s)
chosen_two m n s t = (λ h. rw (lt-ltb s t h), λ h. rw (le-ltb s t h))

-- an operand with itself is itself
pub chosen_same : (x : Class) → chosen x x ≡ x
chosen_same unsupported = refl
chosen_same (nan m s) = go (ltb s s)
  where
    go : (b : Bool) → cond b (nan m s) (nan m s) ≡ nan m s
    go true = refl
    go false = refl
chosen_same (infinite n) = refl
chosen_same (finite v) = refl

-- [2.11] beside an unsupported operand too, although such a pair is refused by 2; and the house NaN where there is none
pub nan_samples : (nan_of x87 (class_of x87 0x00010000000000000000) (class_of x87 0xFFFF8000000000000001) ≡ 0xFFFFC000000000000001)
    × (nan_of x87 (class_of x87 0x7FFF8000000000000001) (class_of x87 0x7FFF0000000000000000) ≡ 0x7FFFC000000000000001)
    × (nan_of x87 (class_of x87 0x7FFF8000000000000000) (class_of x87 0x00010000000000000000) ≡ 0x7FFFC000000000000000)
    × (nan_of binary64 (class_of binary64 0xFFF0000000000000) (class_of binary64 0x8000000000000000) ≡ 0x7FF8000000000000)
unfolding nan_of class_of pattern_of
nan_samples = (refl, refl, refl, refl)

-- ---- [2.13] denormal patterns

-- the ends of both ranges, zeros, the smallest normal number, infinities and NaNs, with both signs
pub denormal_patterns : (map (denormal binary16) (0x0000 ∷ 0x0001 ∷ 0x03FF ∷ 0x0400 ∷ 0x0401 ∷ 0x3C00 ∷ 0x7C00 ∷ 0x7C01 ∷ 0x7E00 ∷ []) ≡ false ∷ true ∷ true ∷ false ∷ false ∷ false ∷ false ∷ false ∷ false ∷ [])
    × (map (denormal binary32) (0x80000000 ∷ 0x80000001 ∷ 0x807FFFFF ∷ 0x80800000 ∷ 0x80800001 ∷ 0xFF800001 ∷ []) ≡ false ∷ true ∷ true ∷ false ∷ false ∷ false ∷ [])
    × (map (denormal binary64) (0x8000000000000000 ∷ 0x8000000000000001 ∷ 0x000FFFFFFFFFFFFF ∷ 0x0010000000000000 ∷ 0xFFF0000000000000 ∷ []) ≡ false ∷ true ∷ true ∷ false ∷ false ∷ [])
    -- of x87 pseudo-denormals too, and neither the field 1 with the same significand nor an unnormal
    × (map (denormal x87)
    (0x00000000000000000000 ∷ 0x80000000000000000001 ∷ 0x00007FFFFFFFFFFFFFFF ∷ 0x00008000000000000000 ∷ 0x8000FFFFFFFFFFFFFFFF ∷ 0x00018000000000000000 ∷ 0x8001FFFFFFFFFFFFFFFF ∷ 0x00010000000000000001 ∷ 0x7FFF0000000000000001 ∷ [])
    ≡ false ∷ true ∷ true ∷ true ∷ true ∷ false ∷ false ∷ false ∷ false ∷ [])
unfolding denormal
denormal_patterns = (refl, refl, refl, refl)

-- [7.7] any operand, under every number but 6
pub told_denormal_lem : (f : Format) (n x y : ℕ) → (told_denormal f 6 x y ≡ false) × (eqb n 6 ≡ false → told_denormal f n x y ≡ denormal f x || denormal f y)
told_denormal_lem f n x y = (refl, λ e. rw e)

pub told_numbers : map (λ n. told_denormal binary16 n 0x0001 0x3C00) (0 ∷ 1 ∷ 2 ∷ 3 ∷ 4 ∷ 5 ∷ 6 ∷ 7 ∷ 8 ∷ 9 ∷ [])
    ≡ true ∷ true ∷ true ∷ true ∷ true ∷ true ∷ false ∷ true ∷ true ∷ true ∷ []
unfolding denormal
told_numbers = refl

pub told_operands : map (λ x. map (told_denormal binary16 0 x) (0x3C00 ∷ 0x8001 ∷ [])) (0x3C00 ∷ 0x8001 ∷ []) ≡ (false ∷ true ∷ []) ∷ (true ∷ true ∷ []) ∷ []
unfolding denormal
told_operands = refl

-- the remainder, scaling and splitting never give 6
not_six : (u q d z : Bool) → eqb (cond u 2 (cond q 3 (cond d 4 (cond z 5 0)))) 6 ≡ false
not_six true q d z = refl
not_six false true d z = refl
not_six false false true z = refl
not_six false false false true = refl
not_six false false false false = refl

pub dividing_not_six : (x y : Class) → eqb (first (dividing x y)) 6 ≡ false
unfolding first
dividing_not_six x y = not_six (is_unsupported x || is_unsupported y) (is_nan x || is_nan y) (is_infinite x) (is_zero y)

pub scaling_not_six : (x : Class) → eqb (first (scaling x)) 6 ≡ false
unfolding first
scaling_not_six unsupported = refl
scaling_not_six (nan n s) = refl
scaling_not_six (infinite n) = refl
scaling_not_six (finite v) = refl

pub splitting_not_six : (x : Class) → eqb (first (splitting x)) 6 ≡ false
unfolding first
splitting_not_six unsupported = refl
splitting_not_six (nan n s) = refl
splitting_not_six (infinite n) = refl
splitting_not_six (finite v) = go (eqb v.count 0)
  where
    go : (z : Bool) → eqb (cond z 8 0) 6 ≡ false
    go true = refl
    go false = refl

-- so that they tell whether any operand is denormal
pub told_always : (f : Format) (κ : Kind) (x y : ℕ) (k : ℤ)
    → (told_denormal f (remainder f κ x y).number x y ≡ denormal f x || denormal f y)
    × (told_denormal f (signed_remainder f κ x y).number x y ≡ denormal f x || denormal f y)
    × (told_denormal f (scale_report f x k).number x x ≡ denormal f x)
    × (told_denormal f (split_report f x).number x x ≡ denormal f x)
unfolding remainder remainder_of signed_remainder signed_of scale_report scale_of split_report split_of
told_always f κ x y k =
    (rw (dividing_not_six (class_of f x) (class_of f y)), rw (dividing_not_six (class_of f x) (class_of f y)), rw (scaling_not_six (class_of f x)) (same (denormal f x)), rw (splitting_not_six (class_of f x)) (same (denormal f x)))
  where
    same : (b : Bool) → b || b ≡ b
    same true = refl
    same false = refl

-- and a step and a run tell it exactly if their size is right
sized_tells : (s : Bool) (k e : ℕ) → eqb k 6 ≡ false → eqb e 6 ≡ false → not (eqb (cond s (cond (eqb k 0) e k) 6) 6) ≡ s
sized_tells false k e h g = refl
sized_tells true k e h g = go (eqb k 0)
  where
    go : (z : Bool) → not (eqb (cond z e k) 6) ≡ true
    go true = rw g
    go false = rw h

ends_not_six : (t : Bool) → (eqb (cond t 1 0) 6 ≡ false) × (eqb (cond t 7 0) 6 ≡ false)
ends_not_six true = (refl, refl)
ends_not_six false = (refl, refl)

pub told_sized : (κ : Kind) (n b x y : ℕ)
    → (told_denormal x87 (step_report nothing κ n x y).number x y ≡ sized n && (denormal x87 x || denormal x87 y))
    × (told_denormal x87 (run_report nothing κ n b x y).number x y ≡ sized n && (denormal x87 x || denormal x87 y))
told_sized κ n b x y =
    let X = class_of x87 x in
    let Y = class_of x87 y in
    let c = call_numbers nothing κ n b x y in
    let d = dividing_not_six X Y in
    let s = not (step κ n (divisor_of Y) (dividend_of X)).done in
    let r = not (run κ n b (divisor_of Y) (dividend_of X)).done in
    (rw (c.0, sized_tells (sized n) (first (dividing X Y)) (cond s 1 0) d (ends_not_six s).0), rw (c.1, sized_tells (sized n) (first (dividing X Y)) (cond r 7 0) d (ends_not_six r).1))

-- [7.7] a pseudo-denormal by 1 with a size that is refused, one step of it, and a budget of 0; and what that returns, which is no denormal
pub told_calls : (told_denormal x87 (step_report nothing Truncated 31 0x00008000000000000001 0x3FFF8000000000000000).number 0x00008000000000000001 0x3FFF8000000000000000 ≡ false)
    × (told_denormal x87 (step_report nothing Nearest 32 0x00008000000000000001 0x3FFF8000000000000000).number 0x00008000000000000001 0x3FFF8000000000000000 ≡ true)
    × (let r = run_report nothing Truncated 32 0 0x00008000000000000001 0x3FFF8000000000000000 in
    (told_denormal x87 r.number 0x00008000000000000001 0x3FFF8000000000000000 ≡ true)
    × (told_denormal x87 (run_report nothing Truncated 32 9 r.value 0x3FFF8000000000000000).number r.value 0x3FFF8000000000000000 ≡ false))
unfolding denormal step_report run_report size gap class_of pattern_of magnitude first finish step run
told_calls = (refl, refl, (refl, refl))
