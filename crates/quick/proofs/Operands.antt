-- The operands of two normal patterns of binary64: their significands are spread, and their gap is that of the fields. Assumes nothing.
use Rattle.std.proofs.Common.{◌≡◌, ℕ, ◌+◌, ◌-◌, ◌*◌, ◌^◌, ◌<◌, ◌≤◌, Bool, true, cond, leb, ℤ, pos, ◌+ℤ◌, ◌-ℤ◌, nat_abs, sym, refl, ap, ◌∙◌, zero-le, mul-div_cancel, arith, pow_pos, le-ltb}
use lib.Ieee.{size}
use lib.Signed.{lt_z}
use Rattle.digits.proofs.Common.{shift_shift}
use Rattle.digits.proofs.Size.{size_shift, size_between}
use Rattle.definitions.specs.Format.{binary64}
use Rattle.division.specs.Divisions.{divisions_of}
use Rattle.operands.specs.Operand.{unpacked_of}
use Rattle.operands.proofs.Lead.{lead, some_operand}
use Rattle.laws.proofs.Gap.{cancel, sub_cases, sub_is}
use Rattle.pairs.specs.Divisions.{pair_divisions, divisions}
use Rattle.quick.specs.Common.{field_of, spread_of}
use Rattle.quick.proofs.Normals.{normal_significand, normal_value, Normal, count_pos, normal_class}
use Rattle.quick.proofs.Fields.{spread_is}

-- a significand of 53 digits, t places above the smallest one
module _ (s t : ℕ) (top : 2 ^ 52 ≤ s) (word : s < 2 ^ 53) where
  digits : size (s * 2 ^ t) ≡ 53 + t
  digits = size_shift s t (omega arith) ∙ ap (λ (k : ℕ). k + t) (size_between s 52 top word)

  place : size (s * 2 ^ t) - 1 ≡ 52 + t
  place = omega (arith, digits)

  spread_lead : lead (s * 2 ^ t) ≡ s * 2 ^ 11
  spread_lead =
      let e : s * 2 ^ t * 2 ^ 63 ≡ s * 2 ^ 11 * 2 ^ (52 + t) = shift_shift s t 63 ∙ (let f : t + 63 ≡ 11 + (52 + t) = omega arith in rw f (sym (shift_shift s 11 (52 + t)))) in
      rw (place, e) (mul-div_cancel (s * 2 ^ 11) (pow_pos (52 + t)))

-- two of them, d places apart
module _ (z : ℤ) (s t a b d : ℕ) (s-top : 2 ^ 52 ≤ s) (s-word : s < 2 ^ 53) (t-top : 2 ^ 52 ≤ t) (t-word : t < 2 ^ 53) (apart : a ≡ d + b) where
  abbrev count : ℕ
  count = divisions_of (s * 2 ^ 11) (t * 2 ^ 11) d

  spread_divisions : (n m : Bool) → pair_divisions (unpacked_of z (record { negative = n; count = s * 2 ^ a })) (unpacked_of z (record { negative = m; count = t * 2 ^ b })) ≡ count
  unfolding unpacked_of
  spread_divisions n m =
      let e : 52 + a - (52 + b) ≡ d = omega arith in
      rw (spread_lead s a s-top s-word, spread_lead t b t-top t-word, place s a s-top s-word, place t b t-top t-word, cancel z (pos (52 + a)) (pos (52 + b)))
      (sub_is (λ (g : ℤ). cond (lt_z g (pos 0)) 0 (divisions_of (s * 2 ^ 11) (t * 2 ^ 11) (nat_abs g)) ≡ count) (52 + a) (52 + b) (rw (e, le-ltb d 0 zero-le)) (λ k l. absurd (omega arith)))

-- those of two patterns
module _ (x y : ℕ) (nx : Normal binary64 x) (ny : Normal binary64 y) where
  operands : divisions binary64 x y ≡ pair_divisions (unpacked_of binary64.smallest (normal_value binary64 x)) (unpacked_of binary64.smallest (normal_value binary64 y))
  unfolding divisions
  operands =
      let s = binary64.smallest in
      rw (
        normal_class binary64 x nx,
        normal_class binary64 y ny,
        some_operand s (normal_value binary64 x) (count_pos binary64 x nx),
        some_operand s (normal_value binary64 y) (count_pos binary64 y ny),
      )

  pub divisions_are : field_of y ≤ field_of x → divisions binary64 x y ≡ divisions_of (spread_of x) (spread_of y) (field_of x - field_of y)
  divisions_are order =
      rw (spread_is x, spread_is y)
      (operands
      ∙ spread_divisions binary64.smallest (normal_significand binary64 x) (normal_significand binary64 y) (field_of x - 1) (field_of y - 1) (field_of x - field_of y)
      (omega arith) (omega arith) (omega arith) (omega arith) (omega (arith, ny.some)) (leb (2 ^ 63) x) (leb (2 ^ 63) y))

  pub kept_divisions : field_of x < field_of y → 0 ≡ divisions binary64 x y
  unfolding unpacked_of
  kept_divisions order =
      let z = binary64.smallest in
      let below_zero : lt_z ((z +ℤ pos (size (normal_value binary64 x).count - 1)) -ℤ (z +ℤ pos (size (normal_value binary64 y).count - 1))) (pos 0) ≡ true =
      rw (
        place (normal_significand binary64 x) (field_of x - 1) (omega arith) (omega arith),
        place (normal_significand binary64 y) (field_of y - 1) (omega arith) (omega arith),
        cancel z (pos (52 + (field_of x - 1))) (pos (52 + (field_of y - 1))),
      )
      (sub_cases (λ (g : ℤ). lt_z g (pos 0) ≡ true) (52 + (field_of x - 1)) (52 + (field_of y - 1)) (λ h. absurd (omega (arith, nx.some))) (λ k e. refl))
      in
      sym (operands ∙ rw below_zero)
