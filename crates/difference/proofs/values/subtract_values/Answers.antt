-- `subtract_values` meets its contract: the value of the higher place goes first.
use mathlib.Core.Path.{◌≡◌, ap, ◌∙◌}
use Prim.Native.Nat.{ℕ, ◌^◌, ◌<◌}
use native.Mathlib.Omega.{arith}
use lib.Dec.{T}
use lib.IntN.{ℤ}
use lib.Signed.{le_z}
use mir.Syntax.{w32}
use mir.Val.{to_z, of_z}
use Rattle.digits.proofs.Signed.{small_back}
use Rattle.definitions.specs.Format.{Format}
use Rattle.operands.specs.Operand.{operand_of, place_in, value_in}
use Rattle.operands.specs.declared.Operand.TheVariants.{Finite}
use Rattle.operands.specs.declared.Unpacked.{Unpacked}
use Rattle.shapes.specs.Shape.{Sound}
use Rattle.packing.specs.Stands.{StandsValue}
use Rattle.packing.proofs.Standing.{smallest_small}
use Rattle.packing.proofs.Places.{Placed, placed}
use Rattle.difference.proofs.Halves.{opposite_stands, opposite_difference}
use Rattle.difference.proofs.values.subtract_values.Goals as goal

-- the places of two values, as the machine reads the exponents
module _ (f : Format) (ok : Sound f) (u : Unpacked) (stands : StandsValue f (Finite u)) (s : ℤ) (s-is : s ≡ f.smallest) where
  value : Placed f (value_in f.smallest u) u
  value = placed f ok u stands

  smallest-back : to_z w32 (of_z w32 s) ≡ f.smallest
  smallest-back = rw s-is (small_back f.smallest (omega (arith, smallest_small f ok)))

  exponent-back : to_z w32 (of_z w32 u.exponent) ≡ u.exponent
  exponent-back = small_back u.exponent (omega (arith, value.small))

  place-ready : T (le_z (to_z w32 (of_z w32 s)) (to_z w32 (of_z w32 u.exponent))) × (place_in (to_z w32 (of_z w32 s)) (to_z w32 (of_z w32 u.exponent)) < 2 ^ 20)
  place-ready = rw (smallest-back, exponent-back) (value.above, omega (arith, value.range, ok.narrow, ok.short))

  place-is : (p : ℕ) → p ≡ place_in (to_z w32 (of_z w32 s)) (to_z w32 (of_z w32 u.exponent)) → p ≡ place_in f.smallest u.exponent
  place-is p is = rw (smallest-back, exponent-back) at is

pub place_of-px-requires : goal.place_of-px-requires
place_of-px-requires g c = place-ready g.F.Format.format g.met.F.Format.sound c.args.x c.requires.0 _ (c.SMALLEST.ensures ∙ g.met.F.Format.smallest_is)

pub place_of-py-requires : goal.place_of-py-requires
place_of-py-requires g c = place-ready g.F.Format.format g.met.F.Format.sound c.args.y c.requires.1 _ (c.SMALLEST-2.ensures ∙ g.met.F.Format.smallest_is)

pub subtract_placed-requires : goal.subtract_placed-requires
subtract_placed-requires g c =
    let f = g.F.Format.format in
    let ok = g.met.F.Format.sound in
    let px = place-is f ok c.args.x c.requires.0 _ (c.SMALLEST.ensures ∙ g.met.F.Format.smallest_is) _ c.place_of-px.ensures in
    let py = place-is f ok c.args.y c.requires.1 _ (c.SMALLEST-2.ensures ∙ g.met.F.Format.smallest_is) _ c.place_of-py.ensures in
    (c.requires.0, c.requires.1, px, rw (← py) (omega (arith, c.if-py-px.true)))

pub subtract_placed-requires-2 : goal.subtract_placed-requires-2
subtract_placed-requires-2 g c =
    let f = g.F.Format.format in
    let ok = g.met.F.Format.sound in
    let px = place-is f ok c.args.x c.requires.0 _ (c.SMALLEST.ensures ∙ g.met.F.Format.smallest_is) _ c.place_of-px.ensures in
    let py = place-is f ok c.args.y c.requires.1 _ (c.SMALLEST-2.ensures ∙ g.met.F.Format.smallest_is) _ c.place_of-py.ensures in
    rw (c.opposite.ensures, c.opposite-2.ensures) (
      opposite_stands f ok c.args.y c.requires.1,
      opposite_stands f ok c.args.x c.requires.0,
      py,
      rw (← px) (omega (arith, c.if-py-px.false)),
    )

pub returns : goal.returns
returns g c =
    let f = g.F.Format.format in
    rw (c.opposite.ensures, c.opposite-2.ensures) at c.subtract_placed-2.ensures
    ∙ ap (operand_of f.smallest) (opposite_difference f g.met.F.Format.sound c.args.x c.args.y)
