-- The exact difference by cases, and what becomes of it: it is held. Assumes nothing.
use mathlib.Core.Path.{◌≡◌, refl, sym, ap, ◌∙◌}
use mathlib.Core.Bool.{Bool, true, false, not, cond, ◌&&◌, beq}
use Prim.Native.Nat.{ℕ, zero, suc, ◌+◌, ◌-◌, ◌≤◌, ◌<◌}
use native.Mathlib.Nat.{sub-zero, zero-add}
use native.Mathlib.Omega.{arith}
use borrow.Author.Tests.{lt-ltb, le-ltb, ltb-true, ltb-false}
use lib.Dec.{T, ltb, ltb→lt, nltb→le, eqb, eqb-suc-zero}
use lib.IntN.{ℤ, pos, negsuc, neg_ℤ, nat_abs, ◌+ℤ◌, ◌-ℤ◌, +ℤ_comm, neg_ℤ-neg_ℤ, neg_ℤ-+ℤ}
use lib.Signed.{lt_z}
use lib.Ieee.{size}
use Rattle.digits.proofs.Tests.{clash}
use Rattle.digits.specs.Digits.{Digits}
use Rattle.definitions.specs.Class.{Value, Class, unsupported, nan, infinite, finite, value_of}
use Rattle.definitions.specs.Format.{Format, Regular, Holds, Representable, exponent_of, reach, house}
use Rattle.definitions.specs.Numbers.{is_nan}
use Rattle.definitions.specs.Difference.{exact_difference, rounded_to, limited, difference_value, difference_class}
use Rattle.laws.proofs.Gap.{sub_cases}
use Rattle.laws.proofs.Range.{exponent_above_lem}
use Rattle.laws.proofs.RoundTrip.{house_holds}
use Rattle.laws.proofs.RoundedTo.{rounded_digits, rounded_held}

abbrev of : Bool → ℕ → Value
of s n = record { negative = s; count = n }

-- the difference of two counts that both have the sign s: the higher less the lower one, and +0 of equal ones
abbrev pub less : Bool → ℕ → ℕ → Value
less s n m = cond (ltb m n) (of s (n - m)) (cond (ltb n m) (of (not s) (m - n)) (of false 0))

-- of two signs the counts add up, and the sign is x's
abbrev pub cases_by_sign : Bool → Value → Value → Value
cases_by_sign same x y = cond same (less x.negative x.count y.count) (of x.negative (x.count + y.count))

pub less_swap : (s : Bool) (n m : ℕ) → less (not s) m n ≡ less s n m
less_swap s n m = go s (ltb m n) (ltb n m) refl refl
  where
    go : (s a b : Bool) → ltb m n ≡ a → ltb n m ≡ b
        → ◌≡◌ {A = Value} (cond b (of (not s) (m - n)) (cond a (of (not (not s)) (n - m)) (of false 0)))
        (cond a (of s (n - m)) (cond b (of (not s) (m - n)) (of false 0)))
    go s true true e f = clash (omega (arith, ltb-true m n e, ltb-true n m f))
    go true true false e f = refl
    go false true false e f = refl
    go s false true e f = refl
    go s false false e f = refl

-- what the definition makes of a signed whole number, where the operands' signs are s and t
abbrev signed_by : Bool → Bool → ℤ → Value
signed_by s t d = of (cond (eqb (nat_abs d) 0) (s && not t) (lt_z d (pos 0))) (nat_abs d)

-- one that is not negative, of operands that are not -0 and +0
not_negative : (s t : Bool) (k : ℕ) → s && not t ≡ false → signed_by s t (pos k) ≡ of false k
not_negative s t zero e = rw e
not_negative s t (suc k) e = rw (eqb-suc-zero k, le-ltb (suc k) 0 (omega arith))

below_zero : (s t : Bool) (k : ℕ) → signed_by s t (negsuc k) ≡ of true (suc k)
below_zero s t k = rw (eqb-suc-zero k)

and_not : (s : Bool) → s && not s ≡ false
and_not true = refl
and_not false = refl

same_is : (s : Bool) (n m : ℕ) → signed_by s s (pos n -ℤ pos m) ≡ less false n m
same_is s n m = sub_cases (λ (d : ℤ). signed_by s s d ≡ less false n m) n m up down
  where
    up : m ≤ n → signed_by s s (pos (n - m)) ≡ less false n m
    up h = not_negative s s (n - m) (and_not s) ∙ sym (go (ltb m n) (ltb→lt m n) (nltb→le m n))
      where
        go : (t : Bool) → (T t → m < n) → (T (not t) → n ≤ m) → less false n m ≡ of false (n - m)
        go true a b = rw (lt-ltb m n (a tt))
        go false a b = let l = b tt in let z : 0 ≡ n - m = omega arith in rw (le-ltb m n l, le-ltb n m h) (ap (of false) z)

    down : (k : ℕ) → n + suc k ≡ m → signed_by s s (negsuc k) ≡ less false n m
    down k e = let z : suc k ≡ m - n = omega arith in below_zero s s k ∙ rw (le-ltb m n (omega arith), lt-ltb n m (omega arith)) (ap (of true) z)

negative : (k : ℕ) → signed_by true false (neg_ℤ (pos k)) ≡ of true k
negative zero = refl
negative (suc k) = below_zero true false k

by_signs : (s t : Bool) (n m : ℕ) → signed_by s t (value_of (of s n) -ℤ value_of (of t m)) ≡ cases_by_sign (beq s t) (of s n) (of t m)
by_signs false false n m = same_is false n m
by_signs true true n m =
    ap (signed_by true true) (ap (λ (k : ℤ). neg_ℤ (pos n) +ℤ k) (neg_ℤ-neg_ℤ (pos m)) ∙ +ℤ_comm (neg_ℤ (pos n)) (pos m))
    ∙ same_is true m n ∙ less_swap true n m
by_signs false true n m = ap (λ (k : ℤ). signed_by false true (pos n +ℤ k)) (neg_ℤ-neg_ℤ (pos m)) ∙ not_negative false true (n + m) refl
by_signs true false n m = ap (signed_by true false) (sym (neg_ℤ-+ℤ (pos n) (pos m))) ∙ negative (n + m)

pub difference_cases : (x y : Value) → exact_difference x y ≡ cases_by_sign (beq x.negative y.negative) x y
unfolding exact_difference
difference_cases x y = by_signs x.negative y.negative x.count y.count

-- x - y is -y - -x
pub difference_swap : (s t : Bool) (n m : ℕ) → exact_difference (of (not t) m) (of (not s) n) ≡ exact_difference (of s n) (of t m)
difference_swap s t n m = difference_cases (of (not t) m) (of (not s) n) ∙ go s t ∙ sym (difference_cases (of s n) (of t m))
  where
    go : (s t : Bool) → cases_by_sign (beq (not t) (not s)) (of (not t) m) (of (not s) n) ≡ cases_by_sign (beq s t) (of s n) (of t m)
    go true true = less_swap true n m
    go false false = less_swap false n m
    go true false = ap (of true) (omega arith)
    go false true = ap (of false) (omega arith)

-- of two zeros, and where one of the two is a zero
pub zero_zero : (s t : Bool) → exact_difference (of s 0) (of t 0) ≡ of (cond (beq s t) false s) 0
unfolding exact_difference
zero_zero true true = refl
zero_zero true false = refl
zero_zero false true = refl
zero_zero false false = refl

pub zero_less : (s t : Bool) (m : ℕ) → 0 < m → exact_difference (of s 0) (of t m) ≡ of (not t) m
zero_less s t m h = difference_cases (of s 0) (of t m) ∙ go s t
  where
    go : (s t : Bool) → cases_by_sign (beq s t) (of s 0) (of t m) ≡ of (not t) m
    go true true = rw (le-ltb m 0 (omega arith), lt-ltb 0 m h) (ap (of false) (sub-zero m))
    go false false = rw (le-ltb m 0 (omega arith), lt-ltb 0 m h) (ap (of true) (sub-zero m))
    go true false = ap (of true) (zero-add m)
    go false true = ap (of false) (zero-add m)

pub less_zero : (s t : Bool) (n : ℕ) → 0 < n → exact_difference (of s n) (of t 0) ≡ of s n
less_zero s t n h = sym (difference_swap s t n 0) ∙ zero_less (not t) (not s) n h ∙ ap (λ (b : Bool). of b n) (twice s)
  where
    twice : (t : Bool) → not (not t) ≡ t
    twice true = refl
    twice false = refl

-- ---- rounded and limited

pub value_is : (f : Format) (x y : Value) → (let d = exact_difference x y in difference_value f x y ≡ limited f d.negative (rounded_to f.precision d.count))
unfolding difference_value
value_is f x y = refl

module _ (f : Format) (r : Regular f) where
  limited_holds : (s : Bool) (n : ℕ) → Digits f.precision n → Holds f (limited f s n)
  unfolding limited
  limited_holds s n d = go (lt_z (pos f.bias) (exponent_of f n)) (exponent_above_lem f r n)
    where
      go : (t : Bool) → t ≡ ltb (reach f) (size n) → Holds f (cond {A = Class} t (infinite s) (finite (of s n)))
      go true e = tt
      go false e = record { digits = d; range = ltb-false (reach f) (size n) (sym e) }

  -- a count that is in range stays
  pub limited_finite : (s : Bool) (n : ℕ) → size n ≤ reach f → limited f s n ≡ finite (of s n)
  unfolding limited
  limited_finite s n h = rw (exponent_above_lem f r n, le-ltb (reach f) (size n) h)

  -- and what the format holds is not rounded
  pub limited_held : (s : Bool) (n : ℕ) → Representable f n → limited f s (rounded_to f.precision n) ≡ finite (of s n)
  limited_held s n h = ap (limited f s) (rounded_held f n h) ∙ limited_finite s n h.range

  pub difference_held : (x y d : Value) → exact_difference x y ≡ d → Representable f d.count → difference_value f x y ≡ finite d
  difference_held x y d e h =
      value_is f x y ∙ ap (λ (v : Value). limited f v.negative (rounded_to f.precision v.count)) e ∙ limited_held d.negative d.count h

  value_holds : (x y : Value) → Holds f (difference_value f x y)
  value_holds x y =
      let d = exact_difference x y in
      rw (value_is f x y)
      (limited_holds d.negative (rounded_to f.precision d.count) (rounded_digits f.precision d.count (omega arith)))

  either_holds : (t s : Bool) → Holds f (cond {A = Class} t (house f) (infinite s))
  either_holds true s = house_holds f r
  either_holds false s = tt

  -- every difference is one that the format holds
  pub difference_holds : (c d : Class) → Holds f (difference_class f c d)
  unfolding difference_class
  difference_holds unsupported d = house_holds f r
  difference_holds (nan n t) d = house_holds f r
  difference_holds (infinite s) unsupported = house_holds f r
  difference_holds (infinite s) (nan n t) = house_holds f r
  difference_holds (infinite s) (infinite t) = either_holds (beq s t) s
  difference_holds (infinite s) (finite y) = tt
  difference_holds (finite x) unsupported = house_holds f r
  difference_holds (finite x) (nan n t) = house_holds f r
  difference_holds (finite x) (infinite t) = tt
  difference_holds (finite x) (finite y) = value_holds x y

-- and a NaN among them is the house NaN
limited_number : (f : Format) (s : Bool) (n : ℕ) → is_nan (limited f s n) ≡ false
unfolding limited
limited_number f s n = go (lt_z (pos f.bias) (exponent_of f n))
  where
    go : (b : Bool) → is_nan (cond b (infinite s) (finite (record { negative = s; count = n }))) ≡ false
    go true = refl
    go false = refl

pub difference_house : (f : Format) (c d : Class) → is_nan (difference_class f c d) ≡ true → difference_class f c d ≡ house f
unfolding difference_class
difference_house f unsupported d e = refl
difference_house f (nan n t) d e = refl
difference_house f (infinite s) unsupported e = refl
difference_house f (infinite s) (nan n t) e = refl
difference_house f (infinite s) (infinite t) e = go (beq s t) e
  where
    go : (b : Bool) → is_nan (cond {A = Class} b (house f) (infinite s)) ≡ true → cond b (house f) (infinite s) ≡ house f
    go true n = refl
    go false n = clash (cc)
difference_house f (infinite s) (finite y) e = clash (cc)
difference_house f (finite x) unsupported e = refl
difference_house f (finite x) (nan n t) e = refl
difference_house f (finite x) (infinite t) e = clash (cc)
difference_house f (finite x) (finite y) e = let u = ap is_nan (value_is f x y) ∙ limited_number f _ _ in clash (cc)
