-- The signed quotient, by what it is of the quotient itself: its range, its magnitude and its sign; and what C asks of remquo. Assumes
-- nothing.
use mathlib.Core.Path.{◌≡◌, refl}
use mathlib.Core.Bool.{Bool, true, false, not, cond, ◌&&◌, ◌||◌}
use Prim.Native.Nat.{ℕ, zero, suc, ◌%◌, ◌<◌}
use native.Mathlib.Omega.{arith}
use borrow.Author.Tests.{ltb-true}
use lib.IntN.{ℤ, pos, nat_abs, ◌+ℤ◌, ◌*ℤ◌}
use lib.Signed.{lt_z}
use Rattle.digits.proofs.Tests.{clash, not_zero}
use Rattle.definitions.specs.Class.{Value, finite, infinite, signed, value_of, combined}
use Rattle.definitions.specs.Format.{Format, Regular, class_of, pattern_of, ordinary_of}
use Rattle.definitions.specs.Numbers.{first, accepted, is_unsupported, is_nan, is_infinite, is_zero}
use Rattle.definitions.specs.declared.Kind.{Kind}
use Rattle.definitions.specs.declared.Kind.TheVariants.{Nearest}
use Rattle.definitions.specs.Division.{Outcome, by, finish, finish_by}
use Rattle.definitions.specs.Remainder.{quotient_modulus, quotient_bits, remainder_of, remainder}
use Rattle.definitions.specs.Signed.{negative_class, signed_of, signed_remainder}
use Rattle.laws.proofs.Division.{Half, rule, nearest_half, zero_sign, finish_held}
use Rattle.laws.proofs.RoundTrip.{read_written, read_held}
use Rattle.laws.proofs.Remainder.{quotient_told, three_bits}

magnitude : (s : Bool) (n : ℕ) → nat_abs (signed s n) ≡ n
magnitude true zero = refl
magnitude true (suc n) = refl
magnitude false n = refl

-- a number below zero was given a minus, and one above zero none
below : (s : Bool) (n : ℕ) → lt_z (signed s n) (pos 0) ≡ true → s ≡ true
below true n h = refl
below false n h = absurd (omega (arith, ltb-true n 0 h))

above : (s : Bool) (n : ℕ) → lt_z (pos 0) (signed s n) ≡ true → s ≡ false
above true zero h = clash (cc)
above true (suc n) h = clash (cc)
above false n h = refl

module _ (f : Format) (κ : Kind) (x y : ℕ) where
  -- [3.8] number and value are those of the remainder, and the quotient has its magnitude, whatever the patterns
  pub signed_remainder_lem : let r = remainder f κ x y in
      let g = signed_remainder f κ x y in
      (g.number ≡ r.number) × (g.value ≡ r.value) × (nat_abs g.quotient ≡ r.quotient)
  unfolding remainder signed_remainder signed_of
  signed_remainder_lem = (refl, refl, magnitude (combined (negative_class (class_of f x)) (negative_class (class_of f y))) (remainder f κ x y).quotient)

  -- [3.8] it is from -(2^31 - 1) to 2^31 - 1
  pub signed_range : nat_abs (signed_remainder f κ x y).quotient < quotient_modulus
  signed_range = rw signed_remainder_lem.2 (quotient_told f κ x y)

  -- [3.7, 3.8] by an infinite divisor it is 0
  pub signed_infinite : (v : Value) (s : Bool) → class_of f x ≡ finite v → class_of f y ≡ infinite s
      → signed_remainder f κ x y ≡ record { number = 0; value = ordinary_of f x; quotient = pos 0 }
  unfolding signed_remainder signed_of remainder_of first finish
  signed_infinite v s ex ey = rw (ex, ey) (λ i. record { number = 0; value = pattern_of f (finite v); quotient = none (combined v.negative s) i })
    where
      none : (t : Bool) → signed t 0 ≡ pos 0
      none true = refl
      none false = refl

  -- [3.8] of two finite operands, the divisor not zero
  pub signed_is : (v w : Value) → class_of f x ≡ finite v → class_of f y ≡ finite w → 0 < w.count
      → let r = finish κ (by w.count) v in
      signed_remainder f κ x y
      ≡ record { number = 0; value = pattern_of f (finite r.value); quotient = signed (combined v.negative w.negative) (quotient_bits r.whole) }
  unfolding signed_remainder signed_of remainder_of first
  signed_is v w ex ey p = rw (ex, ey, not_zero w.count p)

-- What C asks of remquo of v by w, with the remainder r and the quotient q: for the exact quotient, x is r and so many times y; the remainder
-- is the nearest one, at a half by the even quotient, and a zero has the sign of x; q has three low bits of the exact one, here all 31 that
-- are told, and where it is not 0 the sign of x/y.
pub record Remquo (v w r : Value) (q : ℤ) : Type 0 where
  pub exact : ℤ
  pub rest : value_of v ≡ value_of r +ℤ value_of w *ℤ exact
  pub nearest : Half w.count r.count (nat_abs exact)
  pub zero_signed : r.count ≡ 0 → r.negative ≡ v.negative
  pub three_bits : nat_abs q % 8 ≡ nat_abs exact % 8
  pub all_bits : nat_abs q ≡ quotient_bits (nat_abs exact)
  pub minus : lt_z q (pos 0) ≡ true → combined v.negative w.negative ≡ true
  pub plus : lt_z (pos 0) q ≡ true → combined v.negative w.negative ≡ false

-- [3.8] the nearest kind is C's remquo
pub remquo_of_c : (f : Format) (x y : ℕ) (v w : Value) → class_of f x ≡ finite v → class_of f y ≡ finite w → 0 < w.count
    → let r = (finish Nearest (by w.count) v).value in
    ((signed_remainder f Nearest x y).number ≡ 0)
    × ((signed_remainder f Nearest x y).value ≡ pattern_of f (finite r))
    × Remquo v w r (signed_remainder f Nearest x y).quotient
unfolding finish
remquo_of_c f x y v w ex ey p =
    rw (signed_is f Nearest x y v w ex ey p) (
      refl,
      refl,
      record {
        exact = signed t o.whole;
        rest = rule Nearest w.count w.negative v p;
        nearest = rw (magnitude t o.whole) (nearest_half w.count v p);
        zero_signed = zero_sign Nearest w.count v p;
        three_bits = rw (magnitude t (quotient_bits o.whole), magnitude t o.whole) (three_bits o.whole);
        all_bits = rw (magnitude t (quotient_bits o.whole), magnitude t o.whole) refl;
        minus = below t (quotient_bits o.whole);
        plus = above t (quotient_bits o.whole);
      },
    )
  where
    t : Bool
    t = combined v.negative w.negative

    o : Outcome
    o = finish_by Nearest w.count v

-- [3.8] in a regular format the value that is written reads back as that remainder
pub remquo_read : (f : Format) → Regular f → (x y : ℕ) (v w : Value) → class_of f x ≡ finite v → class_of f y ≡ finite w → 0 < w.count
    → class_of f (signed_remainder f Nearest x y).value ≡ finite (finish Nearest (by w.count) v).value
unfolding finish
remquo_read f reg x y v w ex ey p =
    rw (signed_is f Nearest x y v w ex ey p)
    (read_written f reg (finish_by Nearest w.count v).value (finish_held f Nearest w.count v p (read_held f reg y w ey) (read_held f reg x v ex)))

-- [3.8, 7.5] it is refused just where C's remquo gives a NaN: a NaN, an infinite dividend, a zero divisor; and where an operand is unsupported
pub signed_accepted : (f : Format) (κ : Kind) (x y : ℕ)
    → let X = class_of f x in
    let Y = class_of f y in
    accepted (signed_remainder f κ x y).number ≡ not (is_unsupported X || is_unsupported Y) && not (is_nan X || is_nan Y) && not (is_infinite X) && not (is_zero Y)
unfolding signed_remainder signed_of remainder_of first
signed_accepted f κ x y =
    let X = class_of f x in
    let Y = class_of f y in
    go (is_unsupported X || is_unsupported Y) (is_nan X || is_nan Y) (is_infinite X) (is_zero Y)
  where
    go : (u n i z : Bool) → accepted (cond u 2 (cond n 3 (cond i 4 (cond z 5 0)))) ≡ not u && not n && not i && not z
    go true n i z = refl
    go false true i z = refl
    go false false true z = refl
    go false false false true = refl
    go false false false false = refl
