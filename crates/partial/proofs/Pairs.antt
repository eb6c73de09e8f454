-- The steps of two operands that stand for x87 values. Assumes nothing.
use mathlib.Core.Path.{◌≡◌, sym, ap, ◌∙◌}
use mathlib.Core.Bool.{true, false}
use Prim.Native.Nat.{ℕ, ◌+◌, ◌-◌, ◌*◌, ◌/◌, ◌%◌, ◌^◌, ◌≤◌, ◌<◌}
use native.Mathlib.Omega.{arith}
use lib.IntN.{ℤ, pos, nat_abs, ◌+ℤ◌, ◌-ℤ◌, -ℤ-+ℤ_cancel}
use lib.Ieee.{size}
use lib.Signed.{mag, lt_z}
use mir.Syntax.{w32}
use mir.Val.{SFits, to_z, of_z}
use mir.ValLaws.{to_z_pos}
use Rattle.digits.proofs.Signed.{small_back, sub_fits, sub_is}
use Rattle.definitions.specs.Class.{Value, gap}
use Rattle.definitions.specs.Format.{x87}
use Rattle.definitions.specs.Division.{finish_by}
use Rattle.definitions.specs.Steps.{cut_at, step_by}
use Rattle.definitions.specs.declared.Kind.{Kind}
use Rattle.definitions.specs.declared.Progress.TheVariants.{Finished, Unfinished}
use Rattle.digits.proofs.Tests.{not_zero}
use Rattle.operands.specs.Operand.{normal_of, unpacked_of, value_in, Ready, Unpacks}
use Rattle.operands.specs.declared.Unpacked.{Unpacked}
use Rattle.operands.specs.declared.Operand.TheVariants.{Finite}
use Rattle.packing.specs.Stands.{StandsValue}
use Rattle.shapes.proofs.Sounds.{sound80}
use Rattle.packing.proofs.Standing.{ready, unpacks}
use Rattle.laws.proofs.Gap.{gap_exponents}
use Rattle.pairs.specs.Pair.{left_of}
use Rattle.pairs.proofs.TwoOperands.{gap_small}
use Rattle.pairs.specs.declared.Left.{Left}
use Rattle.partial.specs.Stepped.{stepped_of}
use Rattle.partial.proofs.Cut.{cut_is}

module _ (x y : Unpacked) (sx : StandsValue x87 (Finite x)) (sy : StandsValue x87 (Finite y)) where
  pub both_ready : Ready x × Ready y
  both_ready = (ready x87 sound80 x sx, ready x87 sound80 y sy)

  -- their gap is a number of the code's
  pub gap_back : (d : ℤ) → d ≡ x.exponent -ℤ y.exponent → to_z w32 (of_z w32 d) ≡ d
  gap_back d e =
      let small : mag d < 2 ^ 21 = rw e (omega (arith, gap_small x y both_ready.0 both_ready.1)) in
      small_back d small

  -- of the quotient's p places the first k are taken: the place that is left is a number of the code's too
  module _ (k p : ℕ) (h : k ≤ p) (e : pos p ≡ x.exponent -ℤ y.exponent) where
    pub cut_small : k < 2 ^ 19
    cut_small = let g = rw (← e) at (gap_small x y both_ready.0 both_ready.1) in omega (arith, h)

    exponent_back : to_z w32 (of_z w32 x.exponent) ≡ x.exponent
    exponent_back = small_back x.exponent (omega (arith, both_ready.0.small))

    size_back : to_z w32 k ≡ pos k
    size_back = to_z_pos w32 k (omega (arith, cut_small))

    pub lower_fits : SFits w32 (to_z w32 (of_z w32 x.exponent) -ℤ to_z w32 k)
    lower_fits = sub_fits x.exponent (pos k) _ _ exponent_back size_back (omega (arith, both_ready.0.small)) (omega (arith, cut_small))

    pub lower_is : to_z w32 (of_z w32 (to_z w32 (of_z w32 x.exponent) -ℤ to_z w32 k)) ≡ x.exponent -ℤ pos k
    lower_is = sub_is x.exponent (pos k) _ _ exponent_back size_back (omega (arith, both_ready.0.small)) (omega (arith, cut_small))

module _ (x y : Unpacked) (sx : StandsValue x87 (Finite x)) (sy : StandsValue x87 (Finite y)) (d : ℤ) (is : d ≡ x.exponent -ℤ y.exponent) where
  v : Value
  v = value_in x87.smallest x

  m : ℕ
  m = (value_in x87.smallest y).count

  x_unpacks : Unpacks x87.smallest (value_in x87.smallest x) x
  x_unpacks = unpacks x87 sound80 x sx

  y_unpacks : Unpacks x87.smallest (value_in x87.smallest y) y
  y_unpacks = unpacks x87 sound80 y sy

  -- the gap is the difference of the exponents
  gap_of : d ≡ gap v.count m
  unfolding unpacked_of v m
  gap_of = is ∙ (λ i. (x_unpacks.is i).exponent -ℤ (y_unpacks.is i).exponent) ∙ sym (gap_exponents x87 v.count m x_unpacks.some y_unpacks.some)

  -- the places of the quotient, in digits
  digits_are : (p : ℕ) → pos p ≡ d → size v.count ≡ size m + p
  unfolding gap v m
  digits_are p e =
      let D : pos p ≡ pos (size v.count) -ℤ pos (size m) = rw (not_zero v.count x_unpacks.some) at (e ∙ gap_of) in
      let sum : pos (size v.count) ≡ pos (p + size m) = sym (-ℤ-+ℤ_cancel (pos (size v.count)) (pos (size m))) ∙ ap (λ (z : ℤ). z +ℤ pos (size m)) (sym D) in
      omega (arith, ap nat_abs sum)

  pub cut_pair_is : (k p : ℕ) → k ≤ p → pos p ≡ d
      → record {
        value = normal_of x.negative (x.significand * 2 ^ k % y.significand) (x.exponent -ℤ pos k);
        quotient = x.significand * 2 ^ k / y.significand % 2 ^ 32 * 2 ^ (p - k) % 2 ^ 32;
      } ≡ left_of x87.smallest (cut_at (p - k) (value_in x87.smallest y).count (value_in x87.smallest x))
  unfolding unpacked_of v m
  cut_pair_is k p h e =
      let f : size v.count ≡ size m + (k + (p - k)) = omega (arith, digits_are p e) in
      (λ i. record {
        value = normal_of (x_unpacks.is i).negative ((x_unpacks.is i).significand * 2 ^ k % (y_unpacks.is i).significand) ((x_unpacks.is i).exponent -ℤ pos k);
        quotient = (x_unpacks.is i).significand * 2 ^ k / (y_unpacks.is i).significand % 2 ^ 32 * 2 ^ (p - k) % 2 ^ 32;
      })
      ∙ cut_is x87.smallest x.negative v.count m k (p - k) x_unpacks.some x_unpacks.digits y_unpacks.some y_unpacks.digits f

  -- a partial step, of what the code has left
  pub far_step : lt_z d (pos 64) ≡ false → (κ : Kind) (k : ℕ) {l : Left} {j : ℕ}
      → l ≡ left_of x87.smallest (cut_at j (value_in x87.smallest y).count (value_in x87.smallest x)) → j ≡ nat_abs d - k
      → Unfinished l ≡ stepped_of (step_by κ k (value_in x87.smallest y).count (value_in x87.smallest x))
  unfolding step_by cut_at v m
  far_step far κ k e f = rw (← gap_of, far, ← f) (ap Unfinished e)

  pub near_step : (κ : Kind) (k : ℕ) (l : Left) → lt_z d (pos 64) ≡ true → l ≡ left_of x87.smallest (finish_by κ (value_in x87.smallest y).count (value_in x87.smallest x))
      → Finished l ≡ stepped_of (step_by κ k (value_in x87.smallest y).count (value_in x87.smallest x))
  unfolding step_by finish_by v m
  near_step κ k l t e = rw (← gap_of, t) (ap Finished e)
