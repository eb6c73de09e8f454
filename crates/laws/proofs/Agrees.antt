-- The truncated remainder of binary32 and binary64 is the toolchain's own `rem` of IEEE 754 values, for every two patterns. Assumes nothing.
use mathlib.Core.Path.{◌≡◌, refl, sym, ap, ◌∙◌}
use mathlib.Core.Logic.{◌⊎◌, inl, inr}
use mathlib.Core.Bool.{Bool, true, false, cond, ◌||◌}
use Prim.Native.Nat.{ℕ, zero, suc, ◌+◌, ◌-◌, ◌*◌, ◌/◌, ◌%◌, ◌^◌, ◌<◌}
use native.Mathlib.Nat.{add_assoc, add-zero, mul-one, mul_comm, mul_assoc, mul_right_comm, mul-pos, mul-div_cancel, mod-lt, lt_of_lt_of_le, zero-lt-suc, eq-zero-or-pos}
use native.Mathlib.Numerals.{add-one}
use native.Mathlib.Omega.{arith}
use borrow.Author.Tests.{ne_eqb}
use lib.Dec.{leb, eqb, eqb-suc-zero}
use lib.IntN.{negsuc}
use lib.Arith.{mod-mul, digits_div}
use lib.Pow.{pow_pos, pow_mono}
use lib.Ieee as Ieee
use lib.Ieee.{Float, fin, inf, prec, emax, low, up, down, size, hid, ones, top, odd, of_fields, of_bits, to_bits, round, rem}
use lib.Ieee.Digits.{size-lt}
use lib.Ieee.Fits.{two, kept-lt, rem-fits, down_pos, up_pos}
use lib.Ieee.Exact.{HasValue, odd_sign, round_exact}
use lib.Ieee.Scale.{round_same}
use lib.Ieee.Bits.{of_bits-to_bits, of_bits-fits}
use Rattle.digits.proofs.Tests.{clash, not_zero}
use Rattle.digits.proofs.Common.{mod_scale}
use Rattle.definitions.specs.Class.{Value, Class, unsupported, nan, infinite, finite}
use Rattle.definitions.specs.Format.{Format, Representable, Regular, binary32, binary64, hidden_class, class_of, pattern_of, magnitude, house_nan, house}
use Rattle.definitions.specs.declared.Layout.TheVariants.{Hidden}
use Rattle.definitions.specs.declared.Kind.TheVariants.{Truncated}
use Rattle.definitions.specs.Numbers.{first, is_unsupported, is_nan}
use Rattle.definitions.specs.Facts.{nan_of, refused_value}
use Rattle.definitions.specs.Division.{finish_by, finish}
use Rattle.definitions.specs.Remainder.{remainder_of, remainder}
use Rattle.definitions.proofs.Refusals.{supported}
use Rattle.laws.proofs.Regular.{regular32, regular64}
use Rattle.laws.proofs.Representable.{held_count}
use Rattle.laws.proofs.RoundTrip.{read_held, read_holds, house_is}
use Rattle.laws.proofs.Nan.{nan_always}
use Rattle.laws.proofs.Division.{finish_held}

-- the toolchain's two formats, as the definitions have them
abbrev pub ours : Ieee.Format → Format
ours g = record { precision = prec g; bias = emax g; smallest = negsuc (low g - 1); layout = Hidden }

pub ours32 : ours Ieee.binary32 ≡ binary32
ours32 = refl

pub ours64 : ours Ieee.binary64 ≡ binary64
ours64 = refl

pub ours_regular : (g : Ieee.Format) → Regular (ours g)
ours_regular Ieee.binary32 = regular32
ours_regular Ieee.binary64 = regular64

-- a class and a value of the toolchain's are the same; a finite value is its count over 2 ^ low
abbrev pub Stands : Ieee.Format → Class → Float → Type 0
Stands g unsupported v = ⊥
Stands g (nan n t) v = v ≡ Ieee.nan
Stands g (infinite s) v = v ≡ inf s
Stands g (finite x) v = HasValue v x.negative x.count (2 ^ low g)

fields_stand : (g : Ieee.Format) (s : Bool) (e t : ℕ) → Stands g (hidden_class (ours g) s e t) (of_fields g s e t)
unfolding of_fields
fields_stand g s zero t = rw (ne_eqb 0 (ones g) (λ z. omega arith)) (rw mul-one at (odd_sign (prec g) s t 0 (low g)))
fields_stand g s (suc e) t = go (eqb (suc e) (ones g)) (eqb t 0)
  where
    go : (a z : Bool)
        → Stands g (cond a (cond z (infinite s) (nan s t)) (finite (record { negative = s; count = cond (eqb (suc e) 0) t ((hid g + t) * 2 ^ (suc e - 1)) })))
        (cond a (cond z (inf s) Ieee.nan) (odd (prec g) s (hid g + t) e (low g)))
    go true true = refl
    go true false = refl
    go false z = let d : suc e - 1 ≡ e = omega arith in rw (eqb-suc-zero e, d) (odd_sign (prec g) s (hid g + t) e (low g))

-- the exponent field, with the sign's digit taken off before or after
field_is : (b h k : ℕ) → 0 < h → 0 < k → b % (h * k) / h ≡ b / h % k
field_is b h k p q = rw (mul_comm h k, mod-mul b q p) (digits_div (b / h % k) (mod-lt b p))

-- what a pattern stands for
pub stands : (g : Ieee.Format) (b : ℕ) → Stands g (class_of (ours g) b) (of_bits g b)
unfolding class_of of_bits
stands g b =
    rw (add-one (ones g), field_is b (hid g) (suc (ones g)) (pow_pos (prec g - 1)) (zero-lt-suc (ones g)))
    (fields_stand g (leb (top g) b) (b / hid g % suc (ones g)) (b % hid g))

-- how it is written; the toolchain has one NaN, and writes it as the house NaN
pub house_bits : (g : Ieee.Format) → house_nan (ours g) ≡ to_bits g Ieee.nan
unfolding to_bits
house_bits g = refl

-- what is no NaN
written : (g : Ieee.Format) (X : Class) (v : Float) → Stands g X v → is_nan X ≡ false → pattern_of (ours g) X ≡ to_bits g v
unfolding to_bits pattern_of magnitude
written g unsupported v p u = absurd p
written g (nan n t) v p u = clash (cc)
written g (infinite s) v p u = rw (p, add-one (ones g), add-zero (ones g * hid g))
written g (finite x) (fin s m e) p u =
    let n : m * up e * 2 ^ low g / down e ≡ x.count = ap (λ (z : ℕ). z / down e) p.1 ∙ mul-div_cancel x.count (down_pos e) in
    rw (n, p.0, add-one (ones g), add_assoc (cond x.negative (top g) 0) ((size x.count - prec g) * hid g) (x.count / 2 ^ (size x.count - prec g)))
written g (finite x) Ieee.nan p u = elim p [ ]
written g (finite x) (inf _) p u = elim p [ ]

pub writes : (g : Ieee.Format) (X : Class) (v : Float) → Stands g X v → (is_nan X ≡ true → X ≡ house (ours g)) → pattern_of (ours g) X ≡ to_bits g v
writes g unsupported v p one = absurd p
writes g (nan n t) v p one = ap (pattern_of (ours g)) (one refl) ∙ house_is (ours g) (ours_regular g) ∙ house_bits g ∙ ap (to_bits g) (sym p)
writes g (infinite s) v p one = written g (infinite s) v p refl
writes g (finite x) v p one = written g (finite x) v p refl

-- ---- the toolchain's remainder of two finite values

-- one remainder in two units
mod_units : (n m a b u c : ℕ) → 0 < m → 0 < b → 0 < u → 0 < c → n * u ≡ a * c → m * u ≡ b * c → n % m * u ≡ a % b * c
mod_units n m a b u c pm pb pu pc e d = sym (mod_scale n m u pm pu) ∙ rw (e, d) (mod_scale a b c pb pc)

-- a count that the format holds is not rounded
round_held : (g : Ieee.Format) (s : Bool) (n : ℕ) → Representable (ours g) n → HasValue (round g s n (2 ^ low g)) s n (2 ^ low g)
round_held g s n h =
    let k = size n - prec g in
    let c = held_count (ours g) n h in
    round_exact g s n (2 ^ low g) (n / 2 ^ k) k (pow_pos (low g)) (kept-lt (prec g) n)
    (rw c (lt_of_lt_of_le (size-lt n) (pow_mono (omega (arith, h.range, two g)))))
    (rw c refl)

pub rem_stands : (g : Ieee.Format) (x y : Value) (v w : Float) → 0 < y.count → Representable (ours g) x.count → Representable (ours g) y.count
    → Stands g (finite x) v → Stands g (finite y) w → Stands g (finite (finish_by Truncated y.count x).value) (rem g v w)
unfolding rem finish_by
rem_stands g x y (fin s m e) (fin t zero d) b hx hy p q = let l = mul-pos b (down_pos d) in clash (omega (arith, q.1))
rem_stands g x y (fin s m e) (fin t (suc n) d) b hx hy p q =
    let L = 2 ^ low g in
    let c = down e * down d in
    let r = x.count % y.count in
    let pc = mul-pos (down_pos e) (down_pos d) in
    let u = mod_units (m * up e * down d) (suc n * up d * down e) x.count y.count L c
    (mul-pos (mul-pos (zero-lt-suc n) (up_pos d)) (down_pos e)) b (pow_pos (low g)) pc
    (mul_right_comm (m * up e) (down d) L ∙ ap (λ (z : ℕ). z * down d) p.1 ∙ mul_assoc x.count (down e) (down d))
    (mul_right_comm (suc n * up d) (down e) L ∙ ap (λ (z : ℕ). z * down e) q.1 ∙ mul_right_comm y.count (down d) (down e) ∙ mul_assoc y.count (down e) (down d)) in
    rw (eqb-suc-zero n, p.0, round_same g x.negative (m * up e * down d % (suc n * up d * down e)) c r L pc (pow_pos (low g)) u)
    (round_held g x.negative r (finish_held (ours g) Truncated y.count x b hy hx))
rem_stands g x y Ieee.nan w b hx hy p q = elim p [ ]
rem_stands g x y (inf _) w b hx hy p q = elim p [ ]
rem_stands g x y (fin s m e) Ieee.nan b hx hy p q = elim q [ ]
rem_stands g x y (fin s m e) (inf _) b hx hy p q = elim q [ ]

pub rem_zero : (g : Ieee.Format) (x y : Value) (v w : Float) → y.count ≡ 0 → Stands g (finite x) v → Stands g (finite y) w → rem g v w ≡ Ieee.nan
unfolding rem
rem_zero g x y (fin s m e) (fin t zero d) z p q = refl
rem_zero g x y (fin s m e) (fin t (suc n) d) z p q =
    let l = mul-pos (mul-pos (zero-lt-suc n) (up_pos d)) (pow_pos (low g)) in
    clash (omega (arith, rw z at q.1))
rem_zero g x y Ieee.nan w z p q = elim p [ ]
rem_zero g x y (inf _) w z p q = elim p [ ]
rem_zero g x y (fin s m e) Ieee.nan z p q = elim q [ ]
rem_zero g x y (fin s m e) (inf _) z p q = elim q [ ]

-- ---- by what the operands stand for

-- a NaN on either side is refused by 3 with a NaN
nan_refused : (f : Format) (X Y : Class) → is_unsupported X ≡ false → is_unsupported Y ≡ false → is_nan X || is_nan Y ≡ true → (remainder_of f Truncated X Y).value ≡ nan_of f X Y
unfolding remainder_of first refused_value
nan_refused f X Y u t n = rw (u, t, n)

rem_nan : (g : Ieee.Format) (X Y : Class) (v w : Float) → Stands g X v → Stands g Y w → is_nan X || is_nan Y ≡ true → rem g v w ≡ Ieee.nan
unfolding rem
rem_nan g unsupported Y v w p q n = absurd p
rem_nan g (nan m s) Y v w p q n = rw p
rem_nan g (infinite m) Y v w p q n = rw p
rem_nan g (finite x) unsupported v w p q n = absurd q
rem_nan g (finite x) (nan m s) (fin t k e) w p q n = rw q
rem_nan g (finite x) (infinite m) v w p q n = clash (cc)
rem_nan g (finite x) (finite y) v w p q n = clash (cc)
rem_nan g (finite x) (nan m s) Ieee.nan w p q n = elim p [ ]
rem_nan g (finite x) (nan m s) (inf _) w p q n = elim p [ ]

stands_nan : (g : Ieee.Format) (X : Class) (v : Float) → Stands g X v → is_nan X ≡ true → v ≡ Ieee.nan
stands_nan g unsupported v p n = clash (cc)
stands_nan g (nan m s) v p n = p
stands_nan g (infinite m) v p n = clash (cc)
stands_nan g (finite x) v p n = clash (cc)

infinite_dividend : (f : Format) (s : Bool) (Y : Class) → is_nan Y ≡ false → (remainder_of f Truncated (infinite s) Y).value ≡ house_nan f
unfolding remainder_of
infinite_dividend f s unsupported n = refl
infinite_dividend f s (nan t u) n = clash (cc)
infinite_dividend f s (infinite t) n = refl
infinite_dividend f s (finite y) n = refl

infinite_divisor : (f : Format) (x : Value) (t : Bool) → (remainder_of f Truncated (finite x) (infinite t)).value ≡ pattern_of f (finite x)
unfolding remainder_of finish
infinite_divisor f x t = refl

zero_divisor : (f : Format) (x y : Value) → y.count ≡ 0 → (remainder_of f Truncated (finite x) (finite y)).value ≡ house_nan f
unfolding remainder_of
zero_divisor f x y e = rw e

divided : (f : Format) (x y : Value) → 0 < y.count → (remainder_of f Truncated (finite x) (finite y)).value ≡ pattern_of f (finite (finish_by Truncated y.count x).value)
unfolding remainder_of finish
divided f x y h = rw (not_zero y.count h)

abbrev ClassHeld : Format → Class → Type 0
ClassHeld f X = (x : Value) → X ≡ finite x → Representable f x.count

class_agrees : (g : Ieee.Format) (X Y : Class) (v w : Float) → ClassHeld (ours g) X → ClassHeld (ours g) Y → Stands g X v → Stands g Y w
    → is_nan X || is_nan Y ≡ false → (remainder_of (ours g) Truncated X Y).value ≡ to_bits g (rem g v w)
unfolding rem
class_agrees g unsupported Y v w hx hy p q n = absurd p
class_agrees g (nan m s) Y v w hx hy p q n = clash (cc)
class_agrees g (infinite s) Y v w hx hy p q n = rw p (infinite_dividend (ours g) s Y n ∙ house_bits g)
class_agrees g (finite x) unsupported v w hx hy p q n = absurd q
class_agrees g (finite x) (nan m s) v w hx hy p q n = clash (cc)
class_agrees g (finite x) (infinite t) (fin s m e) w hx hy p q n = rw q (infinite_divisor (ours g) x t ∙ written g (finite x) (fin s m e) p refl)
class_agrees g (finite x) (finite y) v w hx hy p q n = go (eq-zero-or-pos y.count)
  where
    go : (y.count ≡ 0) ⊎ (0 < y.count) → (remainder_of (ours g) Truncated (finite x) (finite y)).value ≡ to_bits g (rem g v w)
    go (inl z) = zero_divisor (ours g) x y z ∙ house_bits g ∙ ap (to_bits g) (sym (rem_zero g x y v w z p q))
    go (inr b) =
        divided (ours g) x y b
        ∙ written g (finite (finish_by Truncated y.count x).value) (rem g v w) (rem_stands g x y v w b (hx x refl) (hy y refl) p q) refl
class_agrees g (finite x) (infinite t) Ieee.nan w hx hy p q n = elim p [ ]
class_agrees g (finite x) (infinite t) (inf _) w hx hy p q n = elim p [ ]

-- the pattern that the remainder is written as is the one that the toolchain writes for its own, but for the NaN of a NaN
pub agrees_bits : (g : Ieee.Format) (x y : ℕ) → is_nan (class_of (ours g) x) || is_nan (class_of (ours g) y) ≡ false
    → (remainder (ours g) Truncated x y).value ≡ to_bits g (rem g (of_bits g x) (of_bits g y))
unfolding remainder
agrees_bits g x y =
    class_agrees g (class_of (ours g) x) (class_of (ours g) y) (of_bits g x) (of_bits g y) (read_held (ours g) (ours_regular g) x) (read_held (ours g) (ours_regular g) y) (stands g x) (stands g y)

-- and for every two patterns it is the toolchain's value, to which all NaNs are one
pub agrees : (g : Ieee.Format) (x y : ℕ) → of_bits g (remainder (ours g) Truncated x y).value ≡ rem g (of_bits g x) (of_bits g y)
unfolding remainder
agrees g x y = go (is_nan X || is_nan Y) refl
  where
    X : Class
    X = class_of (ours g) x

    Y : Class
    Y = class_of (ours g) y

    go : (b : Bool) → is_nan X || is_nan Y ≡ b → of_bits g (remainder (ours g) Truncated x y).value ≡ rem g (of_bits g x) (of_bits g y)
    go false n =
        ap (of_bits g) (agrees_bits g x y n) ∙ of_bits-to_bits g (rem g (of_bits g x) (of_bits g y)) (rem-fits g (of_bits g x) (of_bits g y) (of_bits-fits g x))
    go true n =
        let f = ours g in
        let r = ours_regular g in
        let b = nan_of f X Y in
        ap (of_bits g) (nan_refused f X Y (supported f refl x) (supported f refl y) n)
        ∙ stands_nan g (class_of f b) (of_bits g b) (stands g b) (nan_always f r X Y (read_holds f r x) (read_holds f r y))
        ∙ sym (rem_nan g X Y (of_bits g x) (of_bits g y) (stands g x) (stands g y) n)
