-- What the code splits a value into is what the definition splits it into. Assumes nothing.
use mathlib.Core.Path.{◌≡◌, sym, ap, ◌∙◌}
use Prim.Native.Nat.{ℕ, ◌-◌, ◌*◌, ◌^◌}
use native.Mathlib.Nat.{eq_of_mul-eq-mul_right, mul_right_comm}
use native.Mathlib.Omega.{arith}
use lib.IntN.{ℤ, pos}
use lib.Pow.{pow_pos}
use lib.Ieee.{size}
use Rattle.digits.proofs.Tests.{not_zero}
use Rattle.definitions.specs.Class.{Value, finite}
use Rattle.definitions.specs.Format.{Format, Representable, pattern_of}
use Rattle.definitions.specs.Numbers.{first}
use Rattle.definitions.specs.Scale.{significand_of, split_of}
use Rattle.laws.proofs.Splitting.{one_place, significand_sign, significand_count, significand_pos, significand_size, significand_exponent, significand_held}
use Rattle.operands.specs.Operand.{operand_of, unpacked_of, class_in}
use Rattle.operands.specs.declared.Unpacked.{Unpacked}
use Rattle.operands.specs.declared.Operand.TheVariants.{Finite}
use Rattle.operands.proofs.Lead.{lead, lead_exact, some_operand}
use Rattle.shapes.specs.Shape.{Sound}
use Rattle.packing.specs.Stands.{Stands}
use Rattle.packing.proofs.Standing.{held_digits, class_of_lem, stands_class}
use Rattle.packing.proofs.Places.{Placed}

-- the operand with its leading one at the place of 1
abbrev pub at_one : Unpacked → Unpacked
at_one u = record { negative = u.negative; significand = u.significand; exponent = pos 0 }

module _ (f : Format) (ok : Sound f) (v : Value) (u : Unpacked) (p : Placed f v u) where
  abbrev part : Value
  part = significand_of f v

  held : Representable f part.count
  held = significand_held f ok.regular v p.some p.held

  -- the split significand has the operand's own significand, at the place of 1
  own_lead : lead part.count ≡ lead v.count
  own_lead =
      let m = part.count in
      let n = v.count in
      let z = one_place f in
      let j = size n - 1 in
      let k : size m - 1 ≡ z = omega (arith, significand_size f ok.regular v p.some p.held) in
      let there : lead m * 2 ^ z ≡ m * 2 ^ 63 =
      ap (λ (i : ℕ). lead m * 2 ^ i) (sym k) ∙ lead_exact m (significand_pos f ok.regular v p.some p.held) (held_digits f ok m held) in
      let here : lead n * 2 ^ j ≡ n * 2 ^ 63 = lead_exact n p.some (held_digits f ok n p.held) in
      let both : lead m * 2 ^ z * 2 ^ j ≡ lead n * 2 ^ z * 2 ^ j =
      ap (λ (i : ℕ). i * 2 ^ j) there ∙ mul_right_comm m (2 ^ 63) (2 ^ j)
      ∙ ap (λ (i : ℕ). i * 2 ^ 63) (significand_count f ok.regular v p.some p.held)
      ∙ mul_right_comm n (2 ^ z) (2 ^ 63) ∙ ap (λ (i : ℕ). i * 2 ^ z) (sym here) ∙ mul_right_comm (lead n) (2 ^ j) (2 ^ z) in
      eq_of_mul-eq-mul_right (2 ^ z) (pow_pos z) (lead m) (lead n) (eq_of_mul-eq-mul_right (2 ^ j) (pow_pos j) (lead m * 2 ^ z) (lead n * 2 ^ z) both)

  own_parts : Finite (at_one u) ≡ operand_of f.smallest (finite part)
  unfolding unpacked_of
  own_parts =
      rw (
        some_operand f.smallest part (significand_pos f ok.regular v p.some p.held),
        own_lead,
        significand_exponent f ok.regular v p.some p.held,
        significand_sign f v,
        p.lead_is,
        p.sign,
      )

  -- ---- the significand can be packed, and its pattern is the report's
  pub parts_stand : Stands f (Finite (at_one u))
  parts_stand = stands_class f ok (finite part) (Finite (at_one u)) held own_parts

  pub parts_report : (e : ℤ) → e ≡ u.exponent
      → record { number = 0; significand = pattern_of f (class_in f.smallest (Finite (at_one u))); exponent = e } ≡ split_of f (finite v)
  unfolding split_of first
  parts_report e is = rw (not_zero v.count p.some, own_parts, class_of_lem f ok (finite part) held, is, p.exponent_is)
