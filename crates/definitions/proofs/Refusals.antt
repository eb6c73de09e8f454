-- [7.5] what every refusal of a call on patterns tells, and the number of every class: said once, over all operations and formats.
-- Assumes nothing.
use mathlib.Core.Path.{◌≡◌, refl}
use mathlib.Core.Bool.{Bool, true, false, not, cond, ◌&&◌, ◌||◌}
use mathlib.Core.List.{List, [], ◌∷◌, map}
use Prim.Native.Nat.{ℕ, zero, suc, ◌+◌, ◌/◌, ◌%◌, ◌^◌, ◌<◌}
use native.Mathlib.Omega.{arith}
use borrow.Author.Tests.{le-leb, lt-leb}
use lib.Dec.{leb, eqb}
use lib.IntN.{ℤ, pos}
use lib.ListN.{length, get_or}
use Rattle.digits.proofs.Tests.{clash, not_zero}
use Rattle.definitions.specs.Class.{Value, Class, unsupported, nan, infinite, finite, signed}
use Rattle.definitions.specs.Format.{Format, x87, class_of, fields_class, house_nan, top_field}
use Rattle.definitions.specs.Numbers.{first, accepted, dividing, is_unsupported, is_nan, is_infinite, is_zero}
use Rattle.definitions.specs.Division.{finish, dividend_of, divisor_of}
use Rattle.definitions.specs.Facts.{nan_of, refused_value}
use Rattle.definitions.specs.Remainder.{quotient_bits, remainder, remainder_of}
use Rattle.definitions.specs.Signed.{signed_remainder, signed_of}
use Rattle.definitions.specs.Steps.{step, run}
use Rattle.definitions.specs.Reports.{Lent, fitting, sized, stepping, running, step_report, run_report}
use Rattle.definitions.specs.Scale.{scale_report, scale_of, split_report, split_of, scaling, splitting}
use Rattle.definitions.specs.Fold.{folding, dividing_list}
use Rattle.definitions.specs.Exports.{lending}
use Rattle.definitions.specs.declared.Kind.{Kind}
use Rattle.definitions.specs.declared.Layout.{Layout}
use Rattle.definitions.specs.declared.Layout.TheVariants.{Hidden, Explicit}
use Rattle.definitions.specs.declared.Rounding.TheVariants.{Exact}

-- [3.8] 0 has no sign
pub signed_zero : (s : Bool) → signed s 0 ≡ pos 0
signed_zero true = refl
signed_zero false = refl

-- a refusal has its number, the refusal's value, and nothing else
pub refused_tells : (f : Format) (l : Lent) (κ : Kind) (n b x y : ℕ) (k : ℤ)
    → let X = class_of f x in
    let Y = class_of f y in
    let r = remainder f κ x y in
    let g = signed_remainder f κ x y in
    let s = step_report l κ n x y in
    let t = run_report l κ n b x y in
    let u = scale_report f x k in
    let v = split_report f x in
    (accepted r.number ≡ false → r ≡ record { number = r.number; value = refused_value f r.number X Y; quotient = 0 })
    × (accepted g.number ≡ false → g ≡ record { number = g.number; value = refused_value f g.number X Y; quotient = pos 0 })
    × (accepted s.number ≡ false → s ≡ record { number = s.number; value = refused_value x87 s.number (class_of x87 x) (class_of x87 y); quotient = 0; steps = 0 })
    × (accepted t.number ≡ false → t ≡ record { number = t.number; value = refused_value x87 t.number (class_of x87 x) (class_of x87 y); quotient = 0; steps = 0 })
    × (accepted u.number ≡ false → u ≡ record { number = u.number; value = refused_value f u.number X X; says = Exact })
    × (accepted v.number ≡ false → v ≡ record { number = v.number; significand = refused_value f v.number X X; exponent = pos 0 })
unfolding remainder remainder_of signed_remainder signed_of step_report run_report scale_report scale_of split_report split_of
refused_tells f l κ n b x y k = (λ e. rw e, λ e. rw (e, signed_zero), λ e. rw e, λ e. rw e, λ e. rw e, λ e. rw e)

-- [3.6, 4.2, 4.3, 4.7] what an answer tells of its quotient: the bits of the whole one, whatever the operation
pub answers_tell : (f : Format) (l : Lent) (κ : Kind) (n b x y : ℕ)
    → let r = remainder f κ x y in
    let s = step_report l κ n x y in
    let t = run_report l κ n b x y in
    (accepted r.number ≡ true → r.quotient ≡ quotient_bits (finish κ (divisor_of (class_of f y)) (dividend_of (class_of f x))).whole)
    × (accepted s.number ≡ true → s.quotient ≡ quotient_bits (step κ n (divisor_of (class_of x87 y)) (dividend_of (class_of x87 x))).whole)
    × (accepted t.number ≡ true → t.quotient ≡ quotient_bits (run κ n b (divisor_of (class_of x87 y)) (dividend_of (class_of x87 x))).whole)
unfolding remainder remainder_of step_report run_report
answers_tell f l κ n b x y = (λ e. rw e, λ e. rw e, λ e. rw e)

-- [7.1] and that value is the NaN under 3, and the house NaN under any other number
pub refused_value_lem : (f : Format) (n : ℕ) (x y : Class) → (refused_value f 3 x y ≡ nan_of f x y) × (eqb n 3 ≡ false → refused_value f n x y ≡ house_nan f)
unfolding refused_value
refused_value_lem f n x y = (refl, λ e. rw e)

-- ---- the number of a call, by the classes of its operands

some : (n : ℕ) → eqb (suc n) 0 ≡ false
some n = not_zero (suc n) (omega arith)

-- one of each class; every class is among these, for some sign and some count or significand
abbrev pub classes : Bool → ℕ → List Class
classes s n =
    unsupported
    ∷ nan s n
    ∷ infinite s
    ∷ finite (record { negative = s; count = suc n })
    ∷ finite (record { negative = s; count = 0 })
    ∷ []

pub record Among (c : Class) : Type 0 where
  pub sign : Bool
  pub count : ℕ
  pub place : ℕ
  pub is : get_or (classes sign count) place unsupported ≡ c

pub every_class : (c : Class) → Among c
every_class unsupported = record { sign = true; count = 0; place = 0; is = refl }
every_class (nan s n) = record { sign = s; count = n; place = 1; is = refl }
every_class (infinite s) = record { sign = s; count = 0; place = 2; is = refl }
every_class (finite v) = go v.negative v.count
  where
    go : (s : Bool) (n : ℕ) → Among (finite (record { negative = s; count = n }))
    go s zero = record { sign = s; count = 0; place = 4; is = refl }
    go s (suc n) = record { sign = s; count = n; place = 3; is = refl }

-- the tests on operands
pub class_tests : (s : Bool) (n : ℕ) → (map is_unsupported (classes s n) ≡ true ∷ false ∷ false ∷ false ∷ false ∷ [])
    × (map is_nan (classes s n) ≡ false ∷ true ∷ false ∷ false ∷ false ∷ [])
    × (map is_infinite (classes s n) ≡ false ∷ false ∷ true ∷ false ∷ false ∷ [])
    × (map is_zero (classes s n) ≡ false ∷ false ∷ false ∷ false ∷ true ∷ [])
class_tests s n = (refl, refl, refl, rw (some n))

-- [7.1] a row for each dividend, a column for each divisor
pub remainder_numbers : (s t : Bool) (n m : ℕ) → map (λ x. map (λ y. first (dividing x y)) (classes t m)) (classes s n)
    ≡ (2 ∷ 2 ∷ 2 ∷ 2 ∷ 2 ∷ [])
    ∷ (2 ∷ 3 ∷ 3 ∷ 3 ∷ 3 ∷ [])
    ∷ (2 ∷ 3 ∷ 4 ∷ 4 ∷ 4 ∷ [])
    ∷ (2 ∷ 3 ∷ 0 ∷ 0 ∷ 5 ∷ [])
    ∷ (2 ∷ 3 ∷ 0 ∷ 0 ∷ 5 ∷ [])
    ∷ []
unfolding first
remainder_numbers s t n m = rw (some m)

-- the remainder, scaling and splitting have no other
pub pattern_numbers : (f : Format) (κ : Kind) (x y : ℕ) (k : ℤ)
    → ((remainder f κ x y).number ≡ first (dividing (class_of f x) (class_of f y)))
    × ((signed_remainder f κ x y).number ≡ first (dividing (class_of f x) (class_of f y)))
    × ((scale_report f x k).number ≡ first (scaling (class_of f x)))
    × ((split_report f x).number ≡ first (splitting (class_of f x)))
unfolding remainder remainder_of signed_remainder signed_of scale_report scale_of split_report split_of
pattern_numbers f κ x y k = (refl, refl, refl, refl)

-- of scaling, of splitting, and of a list's divisor, which is never unsupported
pub scaling_numbers : (s : Bool) (n : ℕ) → map (λ x. first (scaling x)) (classes s n) ≡ 2 ∷ 3 ∷ 0 ∷ 0 ∷ 0 ∷ []
unfolding first
scaling_numbers s n = refl

pub splitting_numbers : (s : Bool) (n : ℕ) → map (λ x. first (splitting x)) (classes s n) ≡ 2 ∷ 3 ∷ 4 ∷ 0 ∷ 8 ∷ []
unfolding first
splitting_numbers s n = rw (some n)

pub list_numbers : (s : Bool) (n : ℕ) → map (λ y. first (dividing_list y)) (classes s n) ≡ 0 ∷ 3 ∷ 0 ∷ 0 ∷ 5 ∷ []
unfolding first
list_numbers s n = rw (some n)

-- [7.3] a list looks at its lengths first
pub folding_numbers : (xs results quotients : ℕ) (y : Class)
    → first (folding xs results quotients y) ≡ cond (eqb results xs && eqb quotients xs) (first (dividing_list y)) 9
unfolding first
folding_numbers xs results quotients y = go (eqb results xs && eqb quotients xs)
  where
    go : (t : Bool) → cond (not t) 9 (first (dividing_list y)) ≡ cond t (first (dividing_list y)) 9
    go true = refl
    go false = refl

-- [7.3] a step and a run look at the block, then at the size, refuse what the remainder refuses, and then say how they ended
abbrev called : Lent → ℕ → ℕ → ℕ → ℕ
called l n refused ended = cond (fitting l) (cond (sized n) (cond (eqb refused 0) ended refused) 6) 9

check_numbers : (l : Lent) (n : ℕ) (x y : Class) (unfinished : Bool)
    → (first (stepping l n x y unfinished) ≡ called l n (first (dividing x y)) (cond unfinished 1 0))
    × (first (running l n x y unfinished) ≡ called l n (first (dividing x y)) (cond unfinished 7 0))
unfolding first
check_numbers l n x y t = (go 1, go 7)
  where
    by : (m i u q d z : Bool) (k : ℕ) → cond (not m) 9 (cond (not i) 6 (cond u 2 (cond q 3 (cond d 4 (cond z 5 k)))))
        ≡ cond m (cond i (cond (eqb (cond u 2 (cond q 3 (cond d 4 (cond z 5 0)))) 0) k (cond u 2 (cond q 3 (cond d 4 (cond z 5 0))))) 6) 9
    by false i u q d z k = refl
    by true false u q d z k = refl
    by true true true q d z k = refl
    by true true false true d z k = refl
    by true true false false true z k = refl
    by true true false false false true k = refl
    by true true false false false false k = refl

    go : (u : ℕ) → ◌≡◌ {A = ℕ} (cond (not (fitting l)) 9 (cond (not (sized n)) 6 (cond (is_unsupported x || is_unsupported y) 2 (cond (is_nan x || is_nan y) 3 (cond (is_infinite x) 4 (cond (is_zero y) 5 (cond t u 0)))))))
        (called l n (first (dividing x y)) (cond t u 0))
    go u = by (fitting l) (sized n) (is_unsupported x || is_unsupported y) (is_nan x || is_nan y) (is_infinite x) (is_zero y) (cond t u 0)

pub call_numbers : (l : Lent) (κ : Kind) (n b x y : ℕ)
    → let X = class_of x87 x in
    let Y = class_of x87 y in
    ((step_report l κ n x y).number ≡ called l n (first (dividing X Y)) (cond (not (step κ n (divisor_of Y) (dividend_of X)).done) 1 0))
    × ((run_report l κ n b x y).number ≡ called l n (first (dividing X Y)) (cond (not (run κ n b (divisor_of Y) (dividend_of X)).done) 7 0))
unfolding step_report run_report
call_numbers l κ n b x y =
    let X = class_of x87 x in
    let Y = class_of x87 y in
    ((check_numbers l n X Y (not (step κ n (divisor_of Y) (dividend_of X)).done)).0, (check_numbers l n X Y (not (run κ n b (divisor_of Y) (dividend_of X)).done)).1)

-- [4.1] the sizes from 32 to 63, and no others
pub sizes : (k : ℕ) → (k < 32 → sized k ≡ false) × (k < 32 → sized (32 + k) ≡ true) × (sized (64 + k) ≡ false)
sizes k =
    (λ h. rw (lt-leb 32 k h), λ h. rw (le-leb 32 (32 + k) (omega arith), le-leb (32 + k) 63 (omega arith)), rw (le-leb 32 (64 + k) (omega arith), lt-leb (64 + k) 63 (omega arith)))

-- [9.3] a lent block fits if it has 20 bytes
pub lent_blocks : (held : List ℕ) → fitting (lending held) ≡ eqb (length held) 20
lent_blocks held = refl

-- [2.6] an x87 pattern is unsupported if its leading digit is missing and its field is not 0
pub unsupported_patterns : (b : ℕ) → is_unsupported (class_of x87 b) ≡ not (leb (2 ^ 63) (b % 2 ^ 64)) && not (eqb (b / 2 ^ 64 % 2 ^ 15) 0)
unfolding class_of
unsupported_patterns b = go (leb (2 ^ 63) s) (eqb e 0) (eqb e (top_field x87)) (eqb s (2 ^ 63)) _ _ _
  where
    s : ℕ
    s = b % 2 ^ 64

    e : ℕ
    e = b / 2 ^ 64 % 2 ^ 15

    go : (J z t i n : Bool) (v w : Value)
        → is_unsupported (cond z (finite v) (cond J (cond t (cond i (infinite n) (nan n s)) (finite w)) unsupported)) ≡ not J && not z
    go true true t i n v w = refl
    go false true t i n v w = refl
    go true false true true n v w = refl
    go true false true false n v w = refl
    go true false false i n v w = refl
    go false false t i n v w = refl

-- and an interchange format has none
hidden_supported : (l : Layout) → l ≡ Hidden → (f : Format) (n : Bool) (e s : ℕ) → is_unsupported (fields_class l f n e s) ≡ false
hidden_supported Hidden h f n e s = go (eqb e (top_field f)) (eqb s 0) _
  where
    go : (t i : Bool) (v : Value) → is_unsupported (cond t (cond i (infinite n) (nan n s)) (finite v)) ≡ false
    go true true v = refl
    go true false v = refl
    go false i v = refl
hidden_supported Explicit h f n e s = clash (cc)

pub supported : (f : Format) → f.layout ≡ Hidden → (b : ℕ) → is_unsupported (class_of f b) ≡ false
unfolding class_of
supported f h b = hidden_supported f.layout h f _ _ _
