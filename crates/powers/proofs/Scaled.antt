-- What the code makes of a value that it scales is what the definition makes of it. Assumes nothing.
use mathlib.Core.Path.{◌≡◌, refl, sym, ap, ◌∙◌}
use mathlib.Core.Bool.{Bool, true, false, not}
use Prim.Native.Nat.{ℕ, ◌+◌, ◌-◌, ◌*◌, ◌^◌, ◌≤◌, ◌<◌}
use native.Mathlib.Nat.{mul-one, eq_of_mul-eq-mul_right, le_trans, lt_of_le_of_lt}
use native.Mathlib.Omega.{arith}
use lib.Dec.{T, leb, leb→le, nleb→lt}
use lib.IntN.{ℤ, pos, ◌+ℤ◌}
use lib.Pow.{pow_pos}
use lib.Ieee.{size}
use Rattle.digits.proofs.Common.{shift_shift, shift_back}
use Rattle.digits.proofs.Size.{size_pos, size_mono, size_shift}
use Rattle.digits.proofs.Tests.{not_zero}
use Rattle.definitions.specs.Class.{Value, finite}
use Rattle.definitions.specs.Format.{Format, reach, pattern_of}
use Rattle.definitions.specs.Numbers.{first}
use Rattle.definitions.specs.Round.{Rounded, round}
use Rattle.definitions.specs.Scale.{scale_value, scale_class, scale_of}
use Rattle.definitions.specs.declared.Rounding.TheVariants.{Exact, Up}
use Rattle.laws.proofs.Round.{round_multiple, round_same, round_le}
use Rattle.laws.proofs.Scaling.{bounded_round, scale_round, scale_held, bounded_finite, bounded_infinite}
use Rattle.operands.specs.Operand.{operand_of, class_in, normal_of, place_in}
use Rattle.operands.specs.declared.Operand.TheVariants.{Infinite}
use Rattle.operands.specs.declared.Unpacked.{Unpacked}
use Rattle.operands.proofs.Normal.{normal_operand}
use Rattle.shapes.specs.Shape.{Sound}
use Rattle.packing.specs.Stands.{Stands}
use Rattle.packing.proofs.Standing.{class_of_lem, stands_class}
use Rattle.packing.proofs.Places.{Placed}
use Rattle.powers.specs.Power.{far, offset_of}
use Rattle.powers.specs.Scaled.{scaled_of}
use Rattle.definitions.specs.declared.WithRounding.{WithRounding}
use Rattle.operands.specs.declared.Operand.{Operand}
use Rattle.powers.proofs.Powers.{scale_offset}

module _ (f : Format) (ok : Sound f) (v : Value) (u : Unpacked) (p : Placed f v u) (k : ℤ) where
  abbrev s : ℤ
  s = f.smallest

  abbrev n : ℕ
  n = v.count

  -- the rounding that the definition makes
  abbrev whole : Rounded
  whole = round (n * 2 ^ offset_of k) far

  scaled_round : scale_value f v k ≡ bounded_round f v.negative whole
  scaled_round = scale_offset f ok.regular v p.some p.held (omega (arith, ok.narrow, ok.short)) k ∙ scale_round f v (offset_of k) far

  -- upwards it is exact, and downwards it makes the count no larger
  up_exact : far ≤ offset_of k → whole ≡ record { quotient = n * 2 ^ (offset_of k - far); says = Exact }
  up_exact h = ap (λ (z : ℕ). round z far) (sym (shift_back n (offset_of k) far h)) ∙ round_multiple (n * 2 ^ (offset_of k - far)) far

  down_le : offset_of k < far → whole.quotient ≤ n
  down_le h =
      let e : round n (far - offset_of k) ≡ whole = round_same n (far - offset_of k) (offset_of k) (n * 2 ^ offset_of k) far 0 (sym (mul-one (n * 2 ^ offset_of k))) (omega arith) in
      rw e at (round_le n (far - offset_of k))

  -- the place that the code counts
  abbrev pub place : ℕ
  place = place_in s u.exponent + offset_of k

  whole_size : place < reach f + far → size whole.quotient ≤ reach f
  whole_size h = go (leb far (offset_of k)) (leb→le far (offset_of k)) (nleb→lt far (offset_of k))
    where
      go : (t : Bool) → (T t → far ≤ offset_of k) → (T (not t) → offset_of k < far) → size whole.quotient ≤ reach f
      go true a b = rw (up_exact (a tt)) (omega (arith, p.place_is, size_pos n p.some, size_shift n (offset_of k - far) p.some, a tt))
      go false a b = le_trans (size_mono whole.quotient n (down_le (b tt))) p.held.range

  -- ---- the three answers, where the code counts places from `far` below the smallest
  pub scaled_infinite : reach f + far ≤ place → scaled_of s (scale_value f v k) ≡ record { value = Infinite v.negative; says = Up }
  unfolding operand_of
  scaled_infinite h =
      let up : far ≤ offset_of k = omega (arith, p.range) in
      ap (scaled_of s)
      (scaled_round ∙ ap (bounded_round f v.negative) (up_exact up)
      ∙ bounded_infinite f ok.regular v.negative (n * 2 ^ (offset_of k - far)) Exact (omega (arith, p.place_is, size_pos n p.some, size_shift n (offset_of k - far) p.some)))

  scaled_in : place < reach f + far → scale_value f v k ≡ record { class = finite (record { negative = v.negative; count = whole.quotient }); says = whole.says }
  scaled_in h = scaled_round ∙ bounded_finite f ok.regular v.negative whole.quotient whole.says (whole_size h)

  -- the significand that the code has, at its place
  abbrev a : ℕ
  a = u.significand

  same : a * 2 ^ place ≡ n * 2 ^ offset_of k * 2 ^ 63
  same =
      let e : 63 + offset_of k ≡ offset_of k + 63 = omega arith in
      sym (shift_shift a (place_in s u.exponent) (offset_of k)) ∙ ap (λ (z : ℕ). z * 2 ^ offset_of k) p.same
      ∙ shift_shift n 63 (offset_of k) ∙ ap (λ (z : ℕ). n * 2 ^ z) e ∙ sym (shift_shift n (offset_of k) 63)

  whole_exact : far + 63 ≤ place → whole ≡ record { quotient = a * 2 ^ (place - (far + 63)); says = Exact }
  whole_exact l =
      let i = place - (far + 63) in
      let e : i + far + 63 ≡ place = omega arith in
      let m : a * 2 ^ i * 2 ^ far * 2 ^ 63 ≡ n * 2 ^ offset_of k * 2 ^ 63 =
      ap (λ (z : ℕ). z * 2 ^ 63) (shift_shift a i far) ∙ shift_shift a (i + far) 63 ∙ ap (λ (z : ℕ). a * 2 ^ z) e ∙ same in
      ap (λ (z : ℕ). round z far) (sym (eq_of_mul-eq-mul_right (2 ^ 63) (pow_pos 63) (a * 2 ^ i * 2 ^ far) (n * 2 ^ offset_of k) m)) ∙ round_multiple (a * 2 ^ i) far

  pub scaled_exact : place < reach f + far → far + 63 ≤ place
      → scaled_of s (scale_value f v k) ≡ record { value = normal_of v.negative a (s +ℤ pos (place - (far + 63) + 63)); says = Exact }
  scaled_exact h l =
      let i = place - (far + 63) in
      ap (scaled_of s) (scaled_in h) ∙ rw (whole_exact l, normal_operand s v.negative a (i + 63) (a * 2 ^ i) p.word (sym (shift_shift a i 63)))

  pub scaled_rounded : place < reach f + far → place ≤ far + 63
      → scaled_of s (scale_value f v k)
      ≡ record { value = normal_of v.negative (round a (far + 63 - place)).quotient (s +ℤ pos 63); says = (round a (far + 63 - place)).says }
  scaled_rounded h l =
      let c = round a (far + 63 - place) in
      let e : whole ≡ c = sym (round_same a (far + 63 - place) place (n * 2 ^ offset_of k) far 63 same (omega arith)) in
      ap (scaled_of s) (scaled_in h) ∙ rw (e, normal_operand s v.negative c.quotient 63 c.quotient (lt_of_le_of_lt (round_le a (far + 63 - place)) p.word) refl)

  -- ---- what is scaled can be packed, and its pattern is the report's
  module _ (r : WithRounding Operand) (is : r ≡ scaled_of s (scale_value f v k)) where
    pub scaled_stands : Stands f r.value
    scaled_stands =
        stands_class f ok (scale_value f v k).class r.value (scale_held f ok.regular v p.held k) (ap (λ (o : WithRounding Operand). o.value) is)

    pub scaled_report_lem : record { number = 0; value = pattern_of f (class_in s r.value); says = r.says } ≡ scale_of f (finite v) k
    unfolding scale_of scale_class first
    scaled_report_lem = rw (not_zero n p.some, is, class_of_lem f ok (scale_value f v k).class (scale_held f ok.regular v p.held k))
