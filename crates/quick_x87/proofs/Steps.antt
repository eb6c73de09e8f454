-- What a step of two normal x87 numbers reports: below 64 places their remainder, finished, and else a cut of the significands.
-- Assumes nothing.
use mathlib.Core.Path.{◌≡◌, ap, ◌∙◌}
use mathlib.Core.Bool.{true, false}
use Prim.Native.Nat.{ℕ, ◌+◌, ◌-◌, ◌*◌, ◌/◌, ◌%◌, ◌^◌, ◌≤◌, ◌<◌}
use native.Mathlib.Nat.{mul-div-mul_right}
use native.Mathlib.Omega.{arith}
use borrow.Author.Tests.{lt-ltb, le-ltb}
use lib.Dec.{leb}
use lib.IntN.{nat_abs}
use lib.Ieee.{size}
use lib.Pow.{pow_pos}
use Rattle.digits.proofs.Common.{mod_scale, shift_shift}
use Rattle.digits.proofs.Size.{size_shift, size_between}
use Rattle.digits.proofs.Tests.{not_zero}
use Rattle.definitions.specs.Class.{Value, gap, finite}
use Rattle.definitions.specs.Format.{x87, pattern_of}
use Rattle.definitions.specs.Numbers.{first}
use Rattle.definitions.specs.Facts.{refused_value}
use Rattle.definitions.specs.Division.{finish_by}
use Rattle.definitions.specs.Remainder.{quotient_bits, remainder}
use Rattle.definitions.specs.Steps.{near, cut_at, step_by, step}
use Rattle.definitions.specs.Reports.{nothing, sized, step_report}
use Rattle.definitions.specs.declared.Kind.{Kind}
use Rattle.laws.proofs.Gap.{gap_near, gap_far}
use Rattle.laws.proofs.Regular.{regular80}
use Rattle.quick.proofs.Normals.{exponent_field, normal_significand, normal_value, Normal, significand_small, significand_pos, count_pos, normal_class, normals_answer}

digits : (b : ℕ) → Normal x87 b → size (normal_value x87 b).count ≡ 64 + (exponent_field x87 b - 1)
digits b n =
    let s = normal_significand x87 b in
    size_shift s (exponent_field x87 b - 1) (significand_pos x87 b n)
    ∙ ap (λ (k : ℕ). k + (exponent_field x87 b - 1)) (size_between s 63 n.leads (omega (arith, significand_small x87 b regular80)))

module _ (x y : ℕ) (nx : Normal x87 x) (ny : Normal x87 y) (n : ℕ) (right : sized n ≡ true) (κ : Kind) where
  abbrev d : ℕ
  d = exponent_field x87 x - exponent_field x87 y

  abbrev v : Value
  v = normal_value x87 x

  abbrev m : ℕ
  m = (normal_value x87 y).count

  -- the gap is that of the fields
  excess : size v.count - size m ≡ d
  excess = omega (arith, digits x nx, digits y ny, nx.some, ny.some)

  pub near_report : d < 64
      → let r = remainder x87 κ x y in step_report nothing κ n x y ≡ record { number = 0; value = r.value; quotient = r.quotient; steps = 1 }
  unfolding step_report first refused_value step step_by finish_by
  near_report h =
      let close : near (gap v.count m) ≡ true = gap_near v.count m ∙ rw excess (lt-ltb d 64 h) in
      rw (normals_answer x87 κ x y nx ny, normal_class x87 x nx, normal_class x87 y ny, right, not_zero m (count_pos x87 y ny), close)

  far_report : 64 ≤ d → (j : ℕ) → j + n ≡ d
      → let r = cut_at j m v in step_report nothing κ n x y ≡ record { number = 1; value = pattern_of x87 (finite r.value); quotient = quotient_bits r.whole; steps = 1 }
  unfolding step_report first refused_value step step_by cut_at
  far_report h j e =
      let far : near (gap v.count m) ≡ false = gap_near v.count m ∙ rw excess (le-ltb d 64 h) in
      let places : nat_abs (gap v.count m) - n ≡ j = omega (arith, gap_far v.count m (omega (arith, excess)), excess, e) in
      rw (normal_class x87 x nx, normal_class x87 y ny, right, not_zero m (count_pos x87 y ny), far, places)

  -- the cut, on significands
  pub cut_report : 64 ≤ d → (j : ℕ) → j + n ≡ d
      → let X = normal_significand x87 x in let Y = normal_significand x87 y in step_report nothing κ n x y
      ≡ record {
        number = 1;
        value = pattern_of x87 (finite (record { negative = leb (2 ^ 79) x; count = X * 2 ^ n % Y * 2 ^ (exponent_field x87 x - n - 1) }));
        quotient = quotient_bits (X * 2 ^ n / Y * 2 ^ j);
        steps = 1;
      }
  unfolding cut_at
  cut_report h j e =
      let X = normal_significand x87 x in
      let Y = normal_significand x87 y in
      let t = exponent_field x87 x - n - 1 in
      let divisor : m * 2 ^ j ≡ Y * 2 ^ t = let q : exponent_field x87 y - 1 + j ≡ t = omega (arith, ny.some) in shift_shift Y (exponent_field x87 y - 1) j ∙ ap (λ (i : ℕ). Y * 2 ^ i) q in
      let dividend : v.count ≡ X * 2 ^ n * 2 ^ t = let q : n + t ≡ exponent_field x87 x - 1 = omega (arith, ny.some) in rw (shift_shift X n t, q) in
      far_report h j e ∙ rw (divisor, dividend, mod_scale (X * 2 ^ n) Y (2 ^ t) (significand_pos x87 y ny) (pow_pos t), mul-div-mul_right (X * 2 ^ n) Y (pow_pos t))
