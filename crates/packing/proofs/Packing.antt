-- What packing goes by: the digits of a value that are kept, and the fields that they are written in. Assumes nothing.
use mathlib.Core.Path.{◌≡◌, sym, ap, ◌∙◌, subst}
use Prim.Native.Nat.{ℕ, suc, ◌+◌, ◌-◌, ◌*◌, ◌/◌, ◌^◌, ◌≤◌, ◌<◌}
use native.Mathlib.Nat.{mul-div-mul_right, zero-div, zero-sub}
use native.Mathlib.Omega.{arith}
use lib.Dec.{T}
use lib.IntN.{pos, ◌+ℤ◌}
use lib.Pow.{pow-add, pow_pos, shr-shr}
use lib.Signed.{le_z}
use lib.Ieee.{size}
use Rattle.digits.proofs.Signed.{below_add}
use Rattle.digits.proofs.Size.{size_zero}
use Rattle.definitions.specs.Format.{Format, Regular, Representable, top_field, field_weight, leading, hidden_part, magnitude, reach}
use Rattle.operands.specs.declared.Operand.TheVariants.{Finite}
use Rattle.operands.specs.declared.Unpacked.{Unpacked}
use Rattle.operands.specs.Operand.{class_in, unpacked_of, value_in, place_in}
use Rattle.operands.proofs.Lead.{place_is}
use Rattle.operands.proofs.Normal.{count_size}
use Rattle.laws.proofs.Representable.{held_placed, leading_twice}
use Rattle.laws.proofs.Layouts.{weight, hidden_le, low_body}
use Rattle.laws.proofs.Fields.{Fields, low, high, fields_body, fields_field, fields_rest}
use Rattle.shapes.specs.Shape.{Sound}
use Rattle.packing.specs.Trimmed.{trimmed_of}
use Rattle.packing.specs.Stands.{StandsValue}
use Rattle.packing.specs.declared.pack.Trimmed.{Trimmed}
use Rattle.packing.proofs.Standing.{unpacks}

-- ---- a significand with its leading one at bit 63, t places above the smallest place, cut to p digits: `kept` of them below the leading one
pub trim_is : (a t : ℕ) → 2 ^ 63 ≤ a → a < 2 ^ 64 → (p kept : ℕ) → kept ≤ t → kept ≤ 63 → t - kept ≡ suc t - p
    → record { dropped = t - kept; significand = a / 2 ^ (63 - kept) } ≡ trimmed_of p (a * 2 ^ t / 2 ^ 63)
trim_is a t top word p kept h g e =
    let q : 63 + (t - kept) ≡ 63 - kept + t = omega arith in
    let u : a * 2 ^ t / 2 ^ 63 / 2 ^ (t - kept) ≡ a / 2 ^ (63 - kept) =
    shr-shr (a * 2 ^ t) 63 (t - kept) ∙ ap (λ (i : ℕ). a * 2 ^ t / 2 ^ i) q ∙ ap (λ (i : ℕ). a * 2 ^ t / i) (pow-add 2 (63 - kept) t)
    ∙ mul-div-mul_right a (2 ^ (63 - kept)) (pow_pos t) in
    rw (count_size a t top word, ← e, u)

-- ---- the exponent of a value lies above the smallest place, and within the format's range of it
module _ (f : Format) (ok : Sound f) (u : Unpacked) (s : StandsValue f (Finite u)) where
  abbrev places : ℕ
  places = size (value_in f.smallest u).count - 1

  exponent_is : u.exponent ≡ f.smallest +ℤ pos places
  unfolding unpacked_of
  exponent_is = ap (λ (w : Unpacked). w.exponent) (unpacks f ok u s).is

  pub place_above : T (le_z f.smallest u.exponent)
  place_above = rw exponent_is (below_add f.smallest places)

  pub place_below : place_in f.smallest u.exponent < 2 ^ 20
  unfolding class_in
  place_below =
      let range : size (value_in f.smallest u).count ≤ reach f = s.held.range in
      let is : place_in f.smallest u.exponent ≡ places =
      ap (place_in f.smallest) exponent_is ∙ place_is f.smallest (value_in f.smallest u) in
      omega (arith, ok.narrow, ok.short)

-- ---- the fields of a count that the format holds, as the code writes them
pub record Written (f : Format) (n e t : ℕ) : Type 0 where
  pub field : e ≤ top_field f
  pub rest : t < field_weight f
  pub is : e * field_weight f + t ≡ magnitude f n

module _ (f : Format) (r : Regular f) (n : ℕ) (h : Representable f n) where
  abbrev kept : Trimmed
  kept = trimmed_of f.precision n

  written : {e t : ℕ} → Fields f e t kept.dropped kept.significand → Written f n e t
  unfolding magnitude
  written k = record { field = omega (arith, fields_field f k); rest = fields_rest f r k; is = sym (fields_body f k) }

  -- without its leading digit, and with it
  pub low_written : kept.significand < leading f → Written f n 0 kept.significand
  low_written l =
      let s = kept.significand in
      written (subst (λ (i : ℕ). Fields f 0 s i s) (sym ((held_placed f r n h).leads l)) (low l))

  pub high_written : leading f ≤ kept.significand
      → Written f n (kept.dropped + 1) (kept.significand - hidden_part f.layout (leading f))
  high_written g =
      let s = kept.significand in
      let c = hidden_part f.layout (leading f) in
      let p = held_placed f r n h in
      let d = p.small in
      let u = hidden_le f.layout (leading f) in
      let e : c + (s - c) ≡ s = omega arith in
      let one : suc kept.dropped ≡ kept.dropped + 1 = omega arith in
      subst (λ (i : ℕ). Written f n i (s - c)) one
      (written
      (subst (λ (i : ℕ). Fields f (suc kept.dropped) (s - c) kept.dropped i) e
      (high (omega (arith, p.range)) (omega (arith, weight f.layout f r, leading_twice f r)) (omega arith))))

-- ---- a zero
pub magnitude_zero : (f : Format) → magnitude f 0 ≡ 0
unfolding magnitude
magnitude_zero f = simp (size_zero, zero-sub, zero-div) (low_body f.layout f 0 (pow_pos (f.precision - 1)))
