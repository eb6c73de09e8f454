-- Splitting: the significand is held and has the exponent 0, and scaled by the exponent it is the value again. Assumes nothing.
use mathlib.Core.Path.{◌≡◌, refl, ap, ◌∙◌}
use Prim.Native.Nat.{ℕ, zero, suc, ◌+◌, ◌-◌, ◌*◌, ◌^◌, ◌<◌, ◌∣◌}
use native.Mathlib.Nat.{div-mul_cancel, mul-pos, mul-dvd-mul_right, dvd_trans}
use native.Mathlib.Omega.{arith}
use lib.IntN.{pos, neg_ℤ, nat_abs, +ℤ_invr}
use lib.Pow.{pow-add, pow_pos}
use lib.Ieee.{size}
use lib.Ieee.Positive.{first_pos}
use Rattle.digits.proofs.Tests.{not_zero}
use Rattle.digits.proofs.Size.{size_pos, size_shift}
use Rattle.digits.proofs.Digits.{pow_dvd, digits_dvd, digits_shift, digits_unshift}
use Rattle.definitions.specs.Class.{Value, finite}
use Rattle.definitions.specs.Format.{Format, Representable, Regular, exponent_of, class_of, pattern_of, ordinary_of}
use Rattle.definitions.specs.Numbers.{first}
use Rattle.definitions.specs.declared.Rounding.TheVariants.{Exact}
use Rattle.definitions.specs.Scale.{scale_value, scale_report, significand_of, split_of, split_report}
use Rattle.laws.proofs.Range.{smallest_is, exponent_is}
use Rattle.laws.proofs.RoundTrip.{read_held, read_written}
use Rattle.laws.proofs.Round.{round_multiple}
use Rattle.laws.proofs.Scaling.{unchanged, scaled_report, scale_round, scale_finite, bounded_finite}

nat_abs_neg : (n : ℕ) → nat_abs (neg_ℤ (pos n)) ≡ n
nat_abs_neg zero = refl
nat_abs_neg (suc n) = refl

-- how many places one lies above the smallest
abbrev pub one_place : Format → ℕ
one_place f = f.bias + f.precision - 2

pub split_finite : (f : Format) (x : ℕ) (v : Value) → class_of f x ≡ finite v → 0 < v.count
    → split_report f x ≡ record { number = 0; significand = pattern_of f (finite (significand_of f v)); exponent = exponent_of f v.count }
unfolding split_report split_of first
split_finite f x v e some = rw (e, not_zero v.count some)

pub significand_sign : (f : Format) (v : Value) → (significand_of f v).negative ≡ v.negative
unfolding significand_of
significand_sign f v = refl

module _ (f : Format) (r : Regular f) (v : Value) (some : 0 < v.count) (held : Representable f v.count) where
  -- the count of the significand is the value's own, in another place
  pub significand_count : (significand_of f v).count * 2 ^ (size v.count - 1) ≡ v.count * 2 ^ one_place f
  unfolding significand_of
  significand_count =
      let n = v.count in
      let p = f.precision in
      let z = one_place f in
      let s = size_pos n some in
      let a : nat_abs f.smallest ≡ z = ap nat_abs (smallest_is f r) ∙ nat_abs_neg z in
      let d : 2 ^ (size n - p + z) ∣ n * 2 ^ z = rw (pow-add 2 (size n - p) z) (mul-dvd-mul_right (2 ^ (size n - p)) (digits_dvd p n held.digits) (2 ^ z)) in
      rw a (div-mul_cancel (2 ^ (size n - 1)) (dvd_trans (2 ^ (size n - 1)) (pow_dvd (size n - 1) (size n - p + z) (omega arith)) d))

  pub significand_pos : 0 < (significand_of f v).count
  significand_pos = first_pos (significand_of f v).count (2 ^ (size v.count - 1)) (rw significand_count (mul-pos some (pow_pos (one_place f))))

  pub significand_size : size (significand_of f v).count ≡ suc (one_place f)
  significand_size =
      let s = size_pos v.count some in
      let a = size_shift (significand_of f v).count (size v.count - 1) significand_pos in
      let b = size_shift v.count (one_place f) some in
      omega (arith, ap size significand_count)

  -- [6.6] the significand is from 1 to below 2
  pub significand_exponent : exponent_of f (significand_of f v).count ≡ pos 0
  significand_exponent =
      let e : size (significand_of f v).count - 1 ≡ one_place f = omega (arith, significand_size) in
      exponent_is f r (significand_of f v).count ∙ rw e (+ℤ_invr (pos (one_place f)))

  pub significand_held : Representable f (significand_of f v).count
  significand_held =
      let k = size v.count - 1 in
      record {
        digits =
            digits_unshift f.precision (significand_of f v).count k significand_pos
            (rw significand_count (digits_shift f.precision v.count (one_place f) held.digits));
        range = omega (arith, significand_size);
      }

  -- on values
  pub scale_significand : scale_value f (significand_of f v) (exponent_of f v.count) ≡ record { class = finite v; says = Exact }
  scale_significand =
      ap (scale_value f (significand_of f v)) (exponent_is f r v.count) ∙ scale_round f (significand_of f v) (size v.count - 1) (one_place f)
      ∙ rw (significand_count, round_multiple v.count (one_place f), significand_sign f v) (bounded_finite f r v.negative v.count Exact held.range)

-- [6.7] what was split scales back to its value, in its ordinary pattern
pub split_back : (f : Format) → Regular f → (x : ℕ) (v : Value) → class_of f x ≡ finite v → 0 < v.count
    → ((split_report f x).number ≡ 0) × (scale_report f (split_report f x).significand (split_report f x).exponent ≡ unchanged (ordinary_of f x))
split_back f r x v e some =
    let held = read_held f r x v e in
    let s = significand_of f v in
    let back = read_written f r s (significand_held f r v some held) in
    rw (split_finite f x v e some) (
      refl,
      scale_finite f (pattern_of f (finite s)) s (exponent_of f v.count) back (significand_pos f r v some held)
          ∙ ap (scaled_report f) (scale_significand f r v some held) ∙ rw e,
    )
