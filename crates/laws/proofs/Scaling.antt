-- Scaling by a power of two: one cut for every power, what it comes to is held, and what it leaves as it is. Assumes nothing.
use mathlib.Core.Path.{◌≡◌, refl, sym, ap, ◌∙◌}
use mathlib.Core.Bool.{Bool, true, false, cond}
use Prim.Native.Nat.{ℕ, zero, suc, ◌+◌, ◌-◌, ◌*◌, ◌^◌, ◌≤◌, ◌<◌}
use native.Mathlib.Nat.{mul-one, lt_of_lt_of_le, le_trans, two-pow-succ}
use native.Mathlib.Omega.{arith}
use borrow.Author.Tests.{lt-ltb, le-ltb, ltb-false, eq-eqb}
use lib.Dec.{ltb, eqb}
use lib.IntN.{ℤ, pos, negsuc, ◌-ℤ◌}
use lib.Signed.{lt_z}
use lib.Pow.{pow_mono}
use lib.Ieee.{size}
use lib.Ieee.Digits.{size-lt}
use Rattle.digits.specs.Digits.{Digits}
use Rattle.digits.proofs.Tests.{not_zero}
use Rattle.digits.proofs.Size.{size_pos, size_shift}
use Rattle.digits.proofs.Digits.{digits_shift}
use Rattle.digits.proofs.Common.{shift_back}
use Rattle.definitions.specs.Class.{Value, Class, unsupported, nan, infinite, finite}
use Rattle.definitions.specs.Format.{Format, Representable, Regular, reach, exponent_of, patterns, class_of, pattern_of, ordinary_of, Holds}
use Rattle.definitions.specs.Numbers.{first}
use Rattle.definitions.specs.declared.Rounding.{Rounding}
use Rattle.definitions.specs.declared.Rounding.TheVariants.{Exact, Up, Down}
use Rattle.definitions.specs.Round.{Rounded, round}
use Rattle.definitions.specs.Scale.{Scaled, ScaleReport, bounded, scale_value, scale_class, scale_of, scale_report}
use Rattle.laws.proofs.Representable.{zero_held}
use Rattle.laws.proofs.Gap.{sub_cases}
use Rattle.laws.proofs.Range.{exponent_above_lem}
use Rattle.laws.proofs.RoundTrip.{read_held, written_read, written_infinite}
use Rattle.laws.proofs.Ordinary.{Numeric, zero_ordinary}
use Rattle.laws.proofs.Round.{round_multiple, round_nothing, round_same, round_digits}

abbrev pub bounded_round : Format → Bool → Rounded → Scaled
bounded_round f s c = bounded f s c.quotient c.says

-- a power either way is one cut: 2^(a − b) takes the count up by a places, and cuts b
pub scale_round : (f : Format) (v : Value) (a b : ℕ) → scale_value f v (pos a -ℤ pos b) ≡ bounded_round f v.negative (round (v.count * 2 ^ a) b)
unfolding scale_value
scale_round f v a b = sub_cases (λ k. scale_value f v k ≡ bounded_round f v.negative (round (v.count * 2 ^ a) b)) a b up down
  where
    n : ℕ
    n = v.count

    up : b ≤ a → scale_value f v (pos (a - b)) ≡ bounded_round f v.negative (round (n * 2 ^ a) b)
    up h =
        ap (bounded_round f v.negative) (sym (ap (λ (z : ℕ). round z b) (sym (shift_back n a b h)) ∙ round_multiple (n * 2 ^ (a - b)) b))

    down : (k : ℕ) → a + suc k ≡ b → scale_value f v (negsuc k) ≡ bounded_round f v.negative (round (n * 2 ^ a) b)
    down k e = ap (bounded_round f v.negative) (round_same n (suc k) a (n * 2 ^ a) b 0 (sym (mul-one (n * 2 ^ a))) (omega arith))

-- ---- what is held

pub bounded_held : (f : Format) → Regular f → (s : Bool) (n : ℕ) (says : Rounding) → Digits f.precision n → Holds f (bounded f s n says).class
bounded_held f r s n says d = go (lt_z (pos f.bias) (exponent_of f n)) (exponent_above_lem f r n)
  where
    go : (t : Bool) → t ≡ ltb (reach f) (size n)
        → Holds f (cond {A = Scaled} t (record { class = infinite s; says = Up }) (record { class = finite (record { negative = s; count = n }); says = says })).class
    go true e = tt
    go false e = record { digits = d; range = ltb-false (reach f) (size n) (sym e) }

pub bounded_finite : (f : Format) → Regular f → (s : Bool) (n : ℕ) (says : Rounding) → size n ≤ reach f
    → bounded f s n says ≡ record { class = finite (record { negative = s; count = n }); says = says }
bounded_finite f r s n says h = rw (exponent_above_lem f r n, le-ltb (reach f) (size n) h)

pub bounded_infinite : (f : Format) → Regular f → (s : Bool) (n : ℕ) (says : Rounding) → reach f < size n
    → bounded f s n says ≡ record { class = infinite s; says = Up }
bounded_infinite f r s n says h = rw (exponent_above_lem f r n, lt-ltb (reach f) (size n) h)

pub scale_held : (f : Format) → Regular f → (v : Value) → Representable f v.count → (k : ℤ) → Holds f (scale_value f v k).class
unfolding scale_value
scale_held f r v h (pos k) = bounded_held f r v.negative (v.count * 2 ^ k) Exact (digits_shift f.precision v.count k h.digits)
scale_held f r v h (negsuc k) =
    let c = round v.count (suc k) in
    bounded_held f r v.negative c.quotient c.says (round_digits f.precision v.count (suc k) (omega arith) h.digits)

pub scale_class_held : (f : Format) → Regular f → (v : Value) → Representable f v.count → (k : ℤ) → Holds f (scale_class f (finite v) k).class
unfolding scale_class
scale_class_held f r v h k = go (eqb v.count 0)
  where
    go : (t : Bool) → Holds f (cond {A = Scaled} t (record { class = finite v; says = Exact }) (scale_value f v k)).class
    go true = h
    go false = scale_held f r v h k

-- powers that take every value out of the format
module _ (f : Format) (r : Regular f) (v : Value) (some : 0 < v.count) (k : ℕ) (far : reach f ≤ k) where
  pub scale_far_up : scale_value f v (pos k) ≡ record { class = infinite v.negative; says = Up }
  unfolding scale_value
  scale_far_up = bounded_infinite f r v.negative (v.count * 2 ^ k) Exact (omega (arith, size_pos v.count some, size_shift v.count k some))

  pub scale_far_down : Representable f v.count → scale_value f v (negsuc k) ≡ record { class = finite (record { negative = v.negative; count = 0 }); says = Down }
  unfolding scale_value
  scale_far_down h =
      let l : v.count < 2 ^ k = lt_of_lt_of_le (size-lt v.count) (pow_mono (le_trans h.range far)) in
      ap (bounded_round f v.negative) (round_nothing v.count (suc k) some (omega (arith, two-pow-succ k)))
      ∙ bounded_finite f r v.negative 0 Down (zero_held f).range

pub scale_one : (f : Format) → Regular f → (v : Value) → Representable f v.count → scale_value f v (pos 0) ≡ record { class = finite v; says = Exact }
unfolding scale_value
scale_one f r v h = rw (mul-one v.count) (bounded_finite f r v.negative v.count Exact h.range)

-- ---- reports

-- a pattern told back as it is
abbrev pub unchanged : ℕ → ScaleReport
unchanged x = record { number = 0; value = x; says = Exact }

abbrev pub scaled_report : Format → Scaled → ScaleReport
scaled_report f a = record { number = 0; value = pattern_of f a.class; says = a.says }

pub scale_finite : (f : Format) (x : ℕ) (v : Value) (k : ℤ) → class_of f x ≡ finite v → 0 < v.count → scale_report f x k ≡ scaled_report f (scale_value f v k)
unfolding scale_report scale_of scale_class first
scale_finite f x v k e some = rw (e, not_zero v.count some)

module _ (f : Format) (r : Regular f) (x : ℕ) where
  -- [6.5] zeros and infinities stay as they are
  pub scale_infinite : x < patterns f → (s : Bool) (k : ℤ) → class_of f x ≡ infinite s → scale_report f x k ≡ unchanged x
  unfolding scale_report scale_of scale_class first
  scale_infinite small s k e = rw (e, written_infinite f r x s small e)

  pub scale_nothing : x < patterns f → (v : Value) (k : ℤ) → class_of f x ≡ finite v → v.count ≡ 0 → scale_report f x k ≡ unchanged x
  unfolding scale_report scale_of scale_class first
  scale_nothing small v k e none = rw (e, eq-eqb v.count 0 none, written_read f r x v small (zero_ordinary f r x v small e none) e)

  -- [2.10] by 0 every number stays what it is, in its ordinary pattern
  pub scale_zero : Numeric (class_of f x) → scale_report f x (pos 0) ≡ unchanged (ordinary_of f x)
  unfolding scale_report scale_of scale_class first
  scale_zero = go (class_of f x) refl
    where
      go : (c : Class) → class_of f x ≡ c → Numeric c → scale_report f x (pos 0) ≡ unchanged (ordinary_of f x)
      go unsupported e n = absurd n
      go (nan m s) e n = absurd n
      go (infinite s) e n = rw e
      go (finite v) e n = some v.count refl
        where
          some : (c : ℕ) → v.count ≡ c → scale_report f x (pos 0) ≡ unchanged (ordinary_of f x)
          some zero q = rw (e, eq-eqb v.count 0 q)
          some (suc c) q = scale_finite f x v (pos 0) e (omega arith) ∙ ap (scaled_report f) (scale_one f r v (read_held f r x v e)) ∙ rw e
