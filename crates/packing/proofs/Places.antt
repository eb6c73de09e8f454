-- A value as the code has it unpacked: its count, its significand and its place. Assumes nothing.
use mathlib.Core.Path.{◌≡◌, refl, sym, ap, ◌∙◌}
use Prim.Native.Nat.{ℕ, ◌+◌, ◌-◌, ◌*◌, ◌^◌, ◌<◌}
use native.Mathlib.Omega.{arith}
use lib.Dec.{T}
use lib.IntN.{ℤ, pos, nat_abs, ◌+ℤ◌, +ℤ_assoc, +ℤ_idl}
use lib.Ieee.{size}
use lib.Signed.{mag, le_z}
use Rattle.digits.proofs.Signed.{add_sub, below_add}
use Rattle.digits.proofs.Size.{size_pos}
use Rattle.definitions.specs.Class.{Value}
use Rattle.definitions.specs.Format.{Format, Representable, reach, exponent_of}
use Rattle.operands.specs.Operand.{unpacked_of, class_in, place_in, value_in}
use Rattle.operands.specs.declared.Operand.TheVariants.{Finite}
use Rattle.operands.specs.declared.Unpacked.{Unpacked}
use Rattle.operands.proofs.Lead.{lead, lead_exact, place_is}
use Rattle.shapes.specs.Shape.{Sound}
use Rattle.packing.specs.Stands.{StandsValue}
use Rattle.packing.proofs.Standing.{unpacks, ready}

-- the largest exponent is not below the smallest place, and its own place is the last
module _ (f : Format) (ok : Sound f) where
  top : pos f.bias ≡ f.smallest +ℤ pos (reach f - 1)
  top =
      let z = f.bias + f.precision - 2 in
      let e : reach f - 1 ≡ z + f.bias = omega (arith, ok.regular.digits) in
      sym
      (ap (λ (i : ℕ). f.smallest +ℤ pos i) e ∙ sym (+ℤ_assoc f.smallest (pos z) (pos f.bias))
      ∙ ap (λ (i : ℤ). i +ℤ pos f.bias) ok.regular.place
      ∙ +ℤ_idl (pos f.bias))

  pub top_above : T (le_z f.smallest (pos f.bias))
  top_above = rw top (below_add f.smallest (reach f - 1))

  pub top_place : place_in f.smallest (pos f.bias) + 1 ≡ reach f
  top_place = rw (ap (place_in f.smallest) top ∙ ap nat_abs (add_sub f.smallest (pos (reach f - 1)))) (omega (arith, ok.regular.digits))

-- what is known of the value v, unpacked as u
pub record Placed (f : Format) (v : Value) (u : Unpacked) : Type 0 where
  pub some : 0 < v.count
  pub held : Representable f v.count
  pub sign : u.negative ≡ v.negative
  pub lead_is : u.significand ≡ lead v.count
  pub word : u.significand < 2 ^ 64
  pub exponent_is : u.exponent ≡ exponent_of f v.count
  pub small : mag u.exponent < 2 ^ 17
  -- the exponent is not below the smallest place, and its own place is that of the leading one
  pub above : T (le_z f.smallest u.exponent)
  pub place_is : place_in f.smallest u.exponent ≡ size v.count - 1
  pub range : place_in f.smallest u.exponent < reach f
  -- the significand in its place is the count in places of 2 ^ 63
  pub same : u.significand * 2 ^ place_in f.smallest u.exponent ≡ v.count * 2 ^ 63

module _ (f : Format) (ok : Sound f) (u : Unpacked) where
  pub placed : StandsValue f (Finite u) → Placed f (value_in f.smallest u) u
  unfolding unpacked_of class_in
  placed h =
      let v = value_in f.smallest u in
      let n = v.count in
      let p = unpacks f ok u h in
      let r = ready f ok u h in
      let held : Representable f n = h.held in
      let e : u.exponent ≡ exponent_of f n = ap (λ (w : Unpacked). w.exponent) p.is in
      let l : u.significand ≡ lead n = ap (λ (w : Unpacked). w.significand) p.is in
      let i : place_in f.smallest u.exponent ≡ size n - 1 = ap (place_in f.smallest) e ∙ place_is f.smallest v in
      record {
        some = p.some;
        held = held;
        sign = refl;
        lead_is = l;
        word = r.word;
        exponent_is = e;
        small = r.small;
        above = rw e (below_add f.smallest (size n - 1));
        place_is = i;
        range = omega (arith, i, held.range, size_pos n p.some);
        same =
            ap (λ (z : ℕ). z * 2 ^ place_in f.smallest u.exponent) l ∙ ap (λ (z : ℕ). lead n * 2 ^ z) i
            ∙ lead_exact n p.some p.digits;
      }
