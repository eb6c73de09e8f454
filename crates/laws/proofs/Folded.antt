-- The fold of a reading, said in other words: what is divided, what it leaves, and the readings that stay as they are. Assumes nothing.
use mathlib.Core.Path.{◌≡◌, refl, ap, ◌∙◌}
use mathlib.Core.Bool.{Bool, true, false, not, cond, ◌&&◌, ◌||◌}
use Prim.Native.Nat.{ℕ, zero, suc, ◌+◌, ◌-◌, ◌*◌, ◌/◌, ◌%◌, ◌^◌, ◌<◌}
use native.Mathlib.Nat.{mod-lt, mod-eq_of_lt, mul-pos}
use lib.Pow.{pow_pos}
use native.Mathlib.Omega.{arith}
use borrow.Author.Tests.{ltb-true, ltb-false, leb-true, leb-false, eqb-true, eqb-false, not-true, le-ltb, eq-eqb, ne_eqb}
use lib.Dec.{leb, ltb, eqb, eqb-suc-zero}
use lib.IntN.{ℤ, pos, negsuc, nat_abs, ◌-ℤ◌}
use lib.Signed.{lt_z}
use Rattle.digits.proofs.Tests.{clash, and_both, not_zero}
use Rattle.definitions.specs.Class.{Value, Class, unsupported, nan, infinite, finite, signed, value_of}
use Rattle.definitions.specs.Format.{Representable, class_of, pattern_of, patterns, house_nan, binary64}
use Rattle.definitions.specs.Numbers.{first, is_unsupported, is_nan, is_infinite}
use Rattle.definitions.specs.declared.Kind.TheVariants.{Truncated}
use Rattle.definitions.specs.Division.{finish_by, finish}
use Rattle.definitions.specs.Remainder.{Remainder, remainder}
use Rattle.definitions.specs.Fold.{bad}
use Rattle.definitions.specs.Difference.{exact_difference, difference_class, difference}
use Rattle.definitions.specs.Stem.{Gauge, Point, turn, roller, period_of, is_positive, good, shifted, fold_reading, fold_point}
use Rattle.definitions.proofs.Refusals.{supported}
use Rattle.laws.proofs.Regular.{regular64}
use Rattle.laws.proofs.RoundTrip.{read_written, read_held, written_read, read_house_nan, house_nan_small}
use Rattle.laws.proofs.Ordinary.{hidden_ordinary}
use Rattle.laws.proofs.Small.{remainder_small}
use Rattle.laws.proofs.Division.{finish_held}
use Rattle.laws.proofs.Difference.{difference_held}
use Rattle.laws.proofs.Remainder.{remainder_is}

-- ---- the period

-- [11.4] the period of a gauge that is taken: finite and above zero
pub record Period (g : Gauge) : Type 0 where
  pub value : Value
  pub is : class_of binary64 (period_of g) ≡ finite value
  pub sign : value.negative ≡ false
  pub some : 0 < value.count

positive_period : (g : Gauge) → is_positive (class_of binary64 (period_of g)) ≡ true → Period g
positive_period g = go (class_of binary64 (period_of g)) refl
  where
    go : (c : Class) → class_of binary64 (period_of g) ≡ c → is_positive c ≡ true → Period g
    go unsupported e p = clash (cc)
    go (nan n s) e p = clash (cc)
    go (infinite s) e p = clash (cc)
    go (finite w) e p =
        let b = and_both (not w.negative) (not (eqb w.count 0)) p in
        let n = eqb-false w.count 0 (not-true (eqb w.count 0) b.1) in
        record { value = w; is = e; sign = not-true w.negative b.0; some = omega (arith, n) }

pub good_positive : (g : Gauge) → good g ≡ true → is_positive (class_of binary64 (period_of g)) ≡ true
unfolding good
good_positive (turn p) e = e
good_positive (roller p o) e = (and_both (is_positive (class_of binary64 p)) (not (bad o)) e).0

pub good_period : (g : Gauge) → good g ≡ true → Period g
good_period g e = positive_period g (good_positive g e)

-- [11.4] the same by the patterns: those of periods lie between 0 and infinity's, and without its sign that of an origin is below infinity's
abbrev infinity64 : ℕ
infinity64 = 0x7FF0000000000000

not_both : (e s : ℕ) → (e ≡ 0 → s ≡ 0 → ⊥) → eqb e 0 && eqb s 0 ≡ false
not_both e s h = go (eqb e 0) (eqb s 0) refl refl
  where
    go : (t u : Bool) → eqb e 0 ≡ t → eqb s 0 ≡ u → t && u ≡ false
    go true true p q = absurd (h (eqb-true e 0 p) (eqb-true s 0 q))
    go true false p q = refl
    go false u p q = refl

-- what the fields of a pattern say
fields_positive : (n top low z : Bool) (e s : ℕ) → eqb s 0 ≡ z
    → is_positive (cond top (cond z (infinite n) (nan n s)) (finite (record { negative = n; count = cond low s ((2 ^ 52 + s) * 2 ^ (e - 1)) })))
    ≡ not n && (not top && not (low && z))
fields_positive true true low true e s q = refl
fields_positive true true low false e s q = refl
fields_positive true false low z e s q = refl
fields_positive false true low true e s q = refl
fields_positive false true low false e s q = refl
fields_positive false false true z e s q = ap not q
fields_positive false false false z e s q =
    let some : 0 < 2 ^ 52 + s = omega arith in ap not (not_zero ((2 ^ 52 + s) * 2 ^ (e - 1)) (mul-pos some (pow_pos (e - 1))))

pub period_pattern : (b : ℕ) → b < 2 ^ 64 → is_positive (class_of binary64 b) ≡ ltb 0 b && ltb b infinity64
unfolding class_of
period_pattern b h =
    let e = b / 2 ^ 52 % 2048 in
    let s = b % 2 ^ 52 in
    fields_positive (leb (2 ^ 63) b) (eqb e 2047) (eqb e 0) (eqb s 0) e s refl ∙ go (leb (2 ^ 63) b) (ltb b infinity64) (ltb 0 b) refl refl refl
  where
    go : (t u v : Bool) → leb (2 ^ 63) b ≡ t → ltb b infinity64 ≡ u → ltb 0 b ≡ v
        → not t && (not (eqb (b / 2 ^ 52 % 2048) 2047) && not (eqb (b / 2 ^ 52 % 2048) 0 && eqb (b % 2 ^ 52) 0)) ≡ v && u
    go true true v p q r = let l = leb-true (2 ^ 63) b p in let m = ltb-true b infinity64 q in clash (omega arith)
    go true false true p q r = refl
    go true false false p q r = refl
    go false true true p q r =
        let l = leb-false (2 ^ 63) b p in
        let m = ltb-true b infinity64 q in
        let k = ltb-true 0 b r in
        rw (ne_eqb (b / 2 ^ 52 % 2048) 2047 (λ z. omega arith)) (ap not (not_both (b / 2 ^ 52 % 2048) (b % 2 ^ 52) (λ y z. omega arith)))
    go false true false p q r = let l = ltb-false 0 b r in let z : b ≡ 0 = omega arith in rw z refl
    go false false true p q r =
        let l = leb-false (2 ^ 63) b p in
        let m = ltb-false b infinity64 q in
        rw (eq-eqb (b / 2 ^ 52 % 2048) 2047 (omega arith)) refl
    go false false false p q r = let l = ltb-false 0 b r in let m = ltb-false b infinity64 q in clash (omega arith)

fields_bad : (top z : Bool) (n : Bool) (s : ℕ) (v : Value) → (let c = cond top (cond z (infinite n) (nan n s)) (finite v) in is_nan c || is_infinite c) ≡ top
fields_bad true true n s v = refl
fields_bad true false n s v = refl
fields_bad false z n s v = refl

pub origin_pattern : (b : ℕ) → bad b ≡ leb infinity64 (b % 2 ^ 63)
unfolding class_of
origin_pattern b =
    let e = b / 2 ^ 52 % 2048 in
    fields_bad (eqb e 2047) (eqb (b % 2 ^ 52) 0) (leb (2 ^ 63) b) (b % 2 ^ 52) _ ∙ go (leb infinity64 (b % 2 ^ 63)) refl
  where
    go : (t : Bool) → leb infinity64 (b % 2 ^ 63) ≡ t → eqb (b / 2 ^ 52 % 2048) 2047 ≡ t
    go true p = let l = leb-true infinity64 (b % 2 ^ 63) p in eq-eqb (b / 2 ^ 52 % 2048) 2047 (omega arith)
    go false p = let l = leb-false infinity64 (b % 2 ^ 63) p in ne_eqb (b / 2 ^ 52 % 2048) 2047 (λ z. omega arith)

-- [11.4] so a gauge is good by its patterns
pub good_turn : (p : ℕ) → p < 2 ^ 64 → good (turn p) ≡ ltb 0 p && ltb p infinity64
unfolding good
good_turn p h = period_pattern p h

pub good_roller : (p o : ℕ) → p < 2 ^ 64 → good (roller p o) ≡ (ltb 0 p && ltb p infinity64) && not (leb infinity64 (o % 2 ^ 63))
unfolding good
good_roller p o h = rw (period_pattern p h, origin_pattern o)

-- ---- the fold

-- a pattern of binary64 is that of a finite value, or bad
data Sort (x : ℕ) : Type 0 where
  number : (v : Value) → class_of binary64 x ≡ finite v → Sort x
  none : bad x ≡ true → Sort x

sort_of : (x : ℕ) → Sort x
sort_of x = go (class_of binary64 x) refl (supported binary64 refl x)
  where
    go : (c : Class) → class_of binary64 x ≡ c → is_unsupported c ≡ false → Sort x
    go unsupported e u = clash (cc)
    go (nan n s) e u = none (rw e refl)
    go (infinite s) e u = none (rw e refl)
    go (finite v) e u = number v e

module _ (g : Gauge) (x : ℕ) where
  divided : bad (shifted g x) ≡ false → fold_reading g x ≡ (remainder binary64 Truncated (shifted g x) (period_of g)).value
  unfolding fold_reading
  divided b = rw b

  not_divided : bad (shifted g x) ≡ true → fold_reading g x ≡ house_nan binary64
  unfolding fold_reading
  not_divided b = rw b

  -- the fold is a pattern, whatever the gauge and the reading
  pub fold_pattern : fold_reading g x < patterns binary64
  fold_pattern = go (bad (shifted g x)) refl
    where
      go : (t : Bool) → bad (shifted g x) ≡ t → fold_reading g x < patterns binary64
      go true b = rw (not_divided b) (house_nan_small binary64 regular64)
      go false b = rw (divided b) (remainder_small binary64 regular64 Truncated (shifted g x) (period_of g))

  -- [11.11] where what is divided is not finite, the house NaN
  pub fold_nan : ((v : Value) → class_of binary64 (shifted g x) ≡ finite v → ⊥) → fold_reading g x ≡ house_nan binary64
  fold_nan never = go (sort_of (shifted g x))
    where
      go : Sort (shifted g x) → fold_reading g x ≡ house_nan binary64
      go (number v e) = absurd (never v e)
      go (none b) = not_divided b

  module _ (p : Period g) (v : Value) (e : class_of binary64 (shifted g x) ≡ finite v) where
    -- what the period leaves of it: its sign, and the remainder of its count
    abbrev pub left : Value
    left = record { negative = v.negative; count = v.count % p.value.count }

    fold_is : fold_reading g x ≡ pattern_of binary64 (finite left)
    unfolding finish
    fold_is =
        divided (rw e refl)
        ∙ ap (λ (r : Remainder). r.value) (remainder_is binary64 Truncated (shifted g x) (period_of g) v p.value e p.is p.some)

    -- [11.10] where it is finite, the fold stands for that exactly, and is below the period
    pub fold_within : (class_of binary64 (fold_reading g x) ≡ finite left) × (left.count < p.value.count)
    unfolding finish_by
    fold_within =
        let hw = read_held binary64 regular64 (period_of g) p.value p.is in
        let hv = read_held binary64 regular64 (shifted g x) v e in
        let held = finish_held binary64 Truncated p.value.count v p.some hw hv in
        (ap (class_of binary64) fold_is ∙ read_written binary64 regular64 left held, mod-lt v.count p.some)

    -- what is below the period already is left as it is
    pub fold_small : shifted g x < patterns binary64 → v.count < p.value.count → fold_reading g x ≡ shifted g x
    fold_small l h = fold_is ∙ rw (mod-eq_of_lt h) (written_read binary64 regular64 (shifted g x) v l (hidden_ordinary binary64 refl (shifted g x)) e)

-- ---- by a turn, which divides the reading itself

turn_is : (p x : ℕ) → shifted (turn p) x ≡ x
unfolding shifted
turn_is p x = refl

-- [11.9, 11.10] a finite reading that is below the period stays as it is
pub fold_turn_small : (p x : ℕ) (w : Period (turn p)) (v : Value) → x < patterns binary64 → class_of binary64 x ≡ finite v
    → v.count < w.value.count → fold_reading (turn p) x ≡ x
fold_turn_small p x w v l e h = rw (turn_is p x) at (fold_small (turn p) x w v (rw (turn_is p x) e) (rw (turn_is p x) l) h)

-- [11.10, 11.11] and to fold once more changes nothing
pub fold_turn_again : (p x : ℕ) → Period (turn p) → fold_reading (turn p) (fold_reading (turn p) x) ≡ fold_reading (turn p) x
fold_turn_again p x w = go (sort_of (shifted (turn p) x))
  where
    go : Sort (shifted (turn p) x) → fold_reading (turn p) (fold_reading (turn p) x) ≡ fold_reading (turn p) x
    go (number v e) =
        let r = fold_within (turn p) x w v e in
        fold_turn_small p (fold_reading (turn p) x) w _ (fold_pattern (turn p) x) r.0 r.1
    go (none b) =
        let n = house_nan binary64 in
        rw (not_divided (turn p) x b) (not_divided (turn p) n (rw (turn_is p n, read_house_nan binary64 regular64) refl))

-- ---- by a roller, which divides a difference

-- a whole number by its sign and its magnitude; a zero may have either sign
by_sign : (z : Bool) (d : ℤ) → signed (cond (eqb (nat_abs d) 0) z (lt_z d (pos 0))) (nat_abs d) ≡ d
by_sign true (pos zero) = refl
by_sign false (pos zero) = refl
by_sign z (pos (suc n)) = rw (eqb-suc-zero n, le-ltb (suc n) 0 (omega arith)) refl
by_sign z (negsuc n) = rw (eqb-suc-zero n) refl

exact_value : (x y : Value) → value_of (exact_difference x y) ≡ value_of x -ℤ value_of y
unfolding exact_difference
exact_value x y = by_sign (x.negative && not y.negative) (value_of x -ℤ value_of y)

difference_read : (x y : ℕ) (v w : Value) → class_of binary64 x ≡ finite v → class_of binary64 y ≡ finite w
    → Representable binary64 (nat_abs (value_of v -ℤ value_of w)) → class_of binary64 (difference binary64 x y) ≡ finite (exact_difference v w)
unfolding difference difference_class exact_difference
difference_read x y v w ex ey h =
    rw (ex, ey)
    (ap (λ (c : Class). class_of binary64 (pattern_of binary64 c)) (difference_held binary64 regular64 v w (exact_difference v w) refl h)
    ∙ read_written binary64 regular64 (exact_difference v w) h)

-- [11.9, 11.10] a roller folds as a turn of its period would fold the difference, whatever the reading
pub fold_roller : (p o x : ℕ) → fold_reading (roller p o) x ≡ fold_reading (turn p) (difference binary64 x o)
unfolding fold_reading shifted
fold_roller p o x = refl

-- a pattern stands for a whole number of the smallest place
pub record Exactly (x : ℕ) (d : ℤ) : Type 0 where
  pub value : Value
  pub is : class_of binary64 x ≡ finite value
  pub exact : value_of value ≡ d

-- [11.9] where the difference from a roller's origin is representable, it is divided as it is
pub shifted_exact : (p o x : ℕ) (v w : Value) → class_of binary64 x ≡ finite v → class_of binary64 o ≡ finite w
    → Representable binary64 (nat_abs (value_of v -ℤ value_of w)) → Exactly (shifted (roller p o) x) (value_of v -ℤ value_of w)
unfolding shifted
shifted_exact p o x v w ex eo h =
    record { value = exact_difference v w; is = difference_read x o v w ex eo h; exact = exact_value v w }

-- ---- the fold of a point

module _ (g : Gauge) (p : Point) where
  -- [11.10, 11.12] the radius is kept, whatever the gauge
  pub radius_kept : (fold_point g p).point.radius ≡ p.radius
  unfolding fold_point first
  radius_kept = go (good g)
    where
      go : (t : Bool) → (cond (eqb (cond (not t) 15 0) 0) (record { reading = fold_reading g p.reading; radius = p.radius }) p).radius ≡ p.radius
      go true = refl
      go false = refl

  -- [11.10, 11.11] a good gauge folds the reading, with 0
  pub point_folded : good g ≡ true → fold_point g p ≡ record { number = 0; point = record { reading = fold_reading g p.reading; radius = p.radius } }
  unfolding fold_point first
  point_folded e = rw e

  -- [11.12] any other leaves the point, with 15
  pub point_left : good g ≡ false → fold_point g p ≡ record { number = 15; point = p }
  unfolding fold_point first
  point_left e = rw e
