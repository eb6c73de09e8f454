-- The difference of two patterns of binary32 or binary64 is the toolchain's own `sub` of IEEE 754 values, for every two. Assumes nothing.
use mathlib.Core.Path.{◌≡◌, refl, sym, ap, ◌∙◌}
use mathlib.Core.Bool.{Bool, true, false, not, cond, ◌&&◌, beq}
use Prim.Native.Nat.{ℕ, suc, ◌+◌, ◌-◌, ◌*◌, ◌/◌, ◌%◌, ◌^◌, ◌<◌, compare, Ordering}
use native.Mathlib.Nat.{add-mul, mul_comm, mul_assoc, mul_right_comm, mul-pos, mul-div_cancel, lt_of_lt_of_le}
use native.Mathlib.Numerals.{add-one}
use native.Mathlib.Omega.{arith}
use borrow.Author.Tests.{le-ltb, ltb-true, ltb-false, leb-true, leb-false, eqb-true, eqb-false}
use lib.Dec.{ltb, is_le, compare_is_eq}
use lib.Pow.{pow_pos, pow_mono}
use lib.Ieee as Ieee
use lib.Ieee.{Float, fin, inf, prec, emax, low, up, down, size, nearest, odd, units, sum, sub, of_bits, to_bits}
use lib.Ieee.Digits.{size-lt, size_reaches}
use lib.Ieee.Fits.{two, down_pos, round_is}
use lib.Ieee.Exact.{units_val}
use lib.Ieee.Nearest.{closest, closest_same}
use lib.Ieee.Scale.{round_same}
use Rattle.digits.proofs.Tests.{clash}
use Rattle.digits.proofs.Common.{sub_scale, ltb_scale}
use Rattle.definitions.specs.Class.{Value, Class, unsupported, nan, infinite, finite}
use Rattle.definitions.specs.Format.{binary32, binary64, reach, class_of, house}
use Rattle.definitions.specs.Round.{round}
use Rattle.definitions.specs.Difference.{exact_difference, rounded_to, limited, difference_value, difference_class, difference}
use Rattle.laws.proofs.Range.{exponent_above_lem}
use Rattle.laws.proofs.Division.{rounds_up_once}
use Rattle.laws.proofs.Difference.{difference_cases, difference_house}
use Rattle.laws.proofs.Agrees.{ours, ours_regular, Stands, stands, writes}

abbrev value : Bool → ℕ → Value
value s n = record { negative = s; count = n }

-- ---- a count rounded

-- both go to the nearest whole number, and at a tie to the even one
closest_is : (n k : ℕ) → closest n (2 ^ k) ≡ (round n k).quotient
unfolding round
closest_is n k = rw (rounds_up_once q r d) (go (compare (r * 2) d) refl (ltb d (r * 2 + q % 2)) refl)
  where
    d : ℕ
    d = 2 ^ k

    q : ℕ
    q = n / d

    r : ℕ
    r = n % d

    go : (o : Ordering) → compare (r * 2) d ≡ o → (u : Bool) → ltb d (r * 2 + q % 2) ≡ u → nearest q o ≡ cond u (q + 1) q
    go Ordering.lt e true h =
        let ne = eqb-false (r * 2) d (ap compare_is_eq e) in
        omega (arith, leb-true (r * 2) d (ap is_le e), ltb-true d (r * 2 + q % 2) h)
    go Ordering.lt e false h = refl
    go Ordering.eq e true h = omega (arith, eqb-true (r * 2) d (ap compare_is_eq e), ltb-true d (r * 2 + q % 2) h)
    go Ordering.eq e false h = omega (arith, eqb-true (r * 2) d (ap compare_is_eq e), ltb-false d (r * 2 + q % 2) h)
    go Ordering.gt e true h = sym (add-one q)
    go Ordering.gt e false h = omega (arith, leb-false (r * 2) d (ap is_le e), ltb-false d (r * 2 + q % 2) h)

-- both are infinite from the same count on
units_stand : (g : Ieee.Format) (s : Bool) (q k : ℕ) → Stands g (limited (ours g) s (q * 2 ^ k)) (units g s q k)
unfolding limited units
units_stand g s q k = rw (exponent_above_lem (ours g) (ours_regular g) n) (go (ltb (reach (ours g)) (size n)) refl)
  where
    n : ℕ
    n = q * 2 ^ k

    top : ℕ
    top = low g + suc (emax g)

    go : (t : Bool) → ltb (reach (ours g)) (size n) ≡ t
        → Stands g (cond t (infinite s) (finite (value s n))) (cond (ltb n (2 ^ top)) (odd (suc (prec g)) s q k (low g)) (inf s))
    go true e = rw (le-ltb n (2 ^ top) (size_reaches n top (omega (arith, two g, ltb-true (reach (ours g)) (size n) e))))
    go false e = units_val g s q k (lt_of_lt_of_le (size-lt n) (pow_mono (omega (arith, two g, ltb-false (reach (ours g)) (size n) e))))

round_stands : (g : Ieee.Format) (s : Bool) (n : ℕ) → Stands g (limited (ours g) s (rounded_to (prec g) n)) (Ieee.round g s n (2 ^ low g))
unfolding rounded_to
round_stands g s n =
    let L = 2 ^ low g in
    let k = size n - prec g in
    let c = closest_same (n * L) (L * 2 ^ k) n (2 ^ k) (mul-pos (pow_pos (low g)) (pow_pos k)) (pow_pos k) (mul_assoc n L (2 ^ k)) in
    rw (round_is g s n L, mul-div_cancel n (pow_pos (low g)), c, closest_is n k) (units_stand g s (round n k).quotient k)

-- ---- the exact difference

-- ±n and ±m added, as the toolchain has it
abbrev added : Bool → ℕ → Bool → ℕ → Value
added s n t m = cond (beq s t) (value s (n + m)) (cond (ltb n m) (value t (m - n)) (value (s && ltb m n) (n - m)))

exact_is : (s t : Bool) (n m : ℕ) → exact_difference (value s n) (value t m) ≡ added s n (not t) m
exact_is s t n m = difference_cases (value s n) (value t m) ∙ go s t (ltb m n) (ltb n m) refl refl
  where
    go : (s t a b : Bool) → ltb m n ≡ a → ltb n m ≡ b
        → ◌≡◌ {A = Value} (cond (beq s t) (cond a (value s (n - m)) (cond b (value (not s) (m - n)) (value false 0))) (value s (n + m)))
        (cond (beq s (not t)) (value s (n + m)) (cond b (value (not t) (m - n)) (value (s && a) (n - m))))
    go true false a b e f = refl
    go false true a b e f = refl
    go true true true true e f = clash (omega (arith, ltb-true m n e, ltb-true n m f))
    go true true true false e f = refl
    go true true false true e f = refl
    go true true false false e f = let none : n - m ≡ 0 = omega (arith, ltb-false m n e) in rw none
    go false false true true e f = clash (omega (arith, ltb-true m n e, ltb-true n m f))
    go false false true false e f = refl
    go false false false true e f = refl
    go false false false false e f = let none : n - m ≡ 0 = omega (arith, ltb-false m n e) in rw none

-- ---- fractions over c, and the counts of 1 / l that they are
module _ (g : Ieee.Format) (c l : ℕ) (pc : 0 < c) (pl : 0 < l) where
  less_same : (a n b m : ℕ) → a * l ≡ n * c → b * l ≡ m * c → ltb a b ≡ ltb n m
  less_same a n b m p q = sym (ltb_scale a b l pl) ∙ rw (p, q) (ltb_scale n m c pc)

  minus_same : (s : Bool) (a n b m : ℕ) → a * l ≡ n * c → b * l ≡ m * c → Ieee.round g s (a - b) c ≡ Ieee.round g s (n - m) l
  minus_same s a n b m p q = round_same g s (a - b) c (n - m) l pc pl (sym (sub_scale a b l) ∙ rw (p, q) (sub_scale n m c))

  plus_same : (s : Bool) (a n b m : ℕ) → a * l ≡ n * c → b * l ≡ m * c → Ieee.round g s (a + b) c ≡ Ieee.round g s (n + m) l
  plus_same s a n b m p q = round_same g s (a + b) c (n + m) l pc pl (add-mul a b l ∙ rw (p, q) (sym (add-mul n m c)))

  sum_is : (s t : Bool) (a n b m : ℕ) → a * l ≡ n * c → b * l ≡ m * c
      → sum g s a t b c ≡ Ieee.round g (added s n t m).negative (added s n t m).count l
  unfolding sum
  sum_is s t a n b m p q =
      rw (
        less_same a n b m p q,
        less_same b m a n q p,
        plus_same s a n b m p q,
        minus_same t b m a n q p,
        minus_same (s && ltb m n) a n b m p q,
      )
      (go (beq s t) (ltb n m))
    where
      go : (same less : Bool) →
          let v : Value = cond same (value s (n + m)) (cond less (value t (m - n)) (value (s && ltb m n) (n - m))) in
          cond same (Ieee.round g s (n + m) l) (cond less (Ieee.round g t (m - n) l) (Ieee.round g (s && ltb m n) (n - m) l))
          ≡ Ieee.round g v.negative v.count l
      go true less = refl
      go false true = refl
      go false false = refl

-- ---- by what the operands stand for

-- a fraction of the denominator d over the common one, d times k
over : (a n d k l : ℕ) → a * l ≡ n * d → a * k * l ≡ n * (d * k)
over a n d k l e = mul_right_comm a k l ∙ ap (λ (z : ℕ). z * k) e ∙ mul_assoc n d k

value_stands : (g : Ieee.Format) (x y : Value) (v w : Float) → Stands g (finite x) v → Stands g (finite y) w
    → Stands g (difference_value (ours g) x y) (sub g v w)
unfolding difference_value sub
value_stands g x y (fin s m e) (fin t n d) p q =
    let a = m * up e in
    let b = n * up d in
    let L = 2 ^ low g in
    let z = exact_difference x y in
    let i = over a x.count (down e) (down d) L p.1 in
    let j = over b y.count (down d) (down e) L q.1 ∙ ap (λ (k : ℕ). y.count * k) (mul_comm (down d) (down e)) in
    let c = mul-pos (down_pos e) (down_pos d) in
    let r = sum_is g (down e * down d) L c (pow_pos (low g)) s (not t) (a * down d) x.count (b * down e) y.count i j in
    rw (r, p.0, q.0, ← exact_is x.negative y.negative x.count y.count) (round_stands g z.negative z.count)
value_stands g x y Ieee.nan w p q = elim p [ ]
value_stands g x y (inf _) w p q = elim p [ ]
value_stands g x y (fin s m e) Ieee.nan p q = elim q [ ]
value_stands g x y (fin s m e) (inf _) p q = elim q [ ]

infinities_stand : (g : Ieee.Format) (s t : Bool)
    → Stands g (cond (beq s t) (house (ours g)) (infinite s)) (cond (beq s (not t)) (inf s) Ieee.nan)
infinities_stand g true true = refl
infinities_stand g true false = refl
infinities_stand g false true = refl
infinities_stand g false false = refl

class_stands : (g : Ieee.Format) (X Y : Class) (v w : Float) → Stands g X v → Stands g Y w
    → Stands g (difference_class (ours g) X Y) (sub g v w)
unfolding difference_class sub
class_stands g unsupported Y v w p q = absurd p
class_stands g (nan n k) Y v w p q = rw p
class_stands g (infinite s) unsupported v w p q = absurd q
class_stands g (infinite s) (nan n k) v w p q = rw (p, q)
class_stands g (infinite s) (infinite t) v w p q = rw (p, q) (infinities_stand g s t)
class_stands g (infinite s) (finite y) v (fin t n d) p q = rw p
class_stands g (finite x) unsupported v w p q = absurd q
class_stands g (finite x) (nan n k) (fin s m e) w p q = rw q
class_stands g (finite x) (infinite t) (fin s m e) w p q = rw q
class_stands g (finite x) (finite y) v w p q = value_stands g x y v w p q
class_stands g (infinite s) (finite y) v Ieee.nan p q = elim q [ ]
class_stands g (infinite s) (finite y) v (inf _) p q = elim q [ ]
class_stands g (finite x) (nan n k) Ieee.nan w p q = elim p [ ]
class_stands g (finite x) (nan n k) (inf _) w p q = elim p [ ]
class_stands g (finite x) (infinite t) Ieee.nan w p q = elim p [ ]
class_stands g (finite x) (infinite t) (inf _) w p q = elim p [ ]

-- the pattern that the difference is written as is the one that the toolchain writes for its own, a NaN and a zero's sign too
pub difference_ieee : (g : Ieee.Format) (x y : ℕ) → difference (ours g) x y ≡ to_bits g (sub g (of_bits g x) (of_bits g y))
unfolding difference
difference_ieee g x y =
    writes g (difference_class (ours g) (class_of (ours g) x) (class_of (ours g) y)) (sub g (of_bits g x) (of_bits g y))
    (class_stands g (class_of (ours g) x) (class_of (ours g) y) (of_bits g x) (of_bits g y) (stands g x) (stands g y))
    (difference_house (ours g) (class_of (ours g) x) (class_of (ours g) y))

pub difference_ieee32 : (x y : ℕ)
    → difference binary32 x y ≡ to_bits Ieee.binary32 (sub Ieee.binary32 (of_bits Ieee.binary32 x) (of_bits Ieee.binary32 y))
difference_ieee32 = difference_ieee Ieee.binary32

pub difference_ieee64 : (x y : ℕ)
    → difference binary64 x y ≡ to_bits Ieee.binary64 (sub Ieee.binary64 (of_bits Ieee.binary64 x) (of_bits Ieee.binary64 y))
difference_ieee64 = difference_ieee Ieee.binary64
