-- `scale_value` meets its contract: the places that it counts are those of the definition's one rounding.
use mathlib.Core.Path.{◌≡◌, refl, sym, ◌∙◌}
use Prim.Native.Nat.{ℕ, ◌+◌, ◌^◌, ◌<◌}
use native.Mathlib.Omega.{arith}
use lib.IntN.{ℤ, pos, ◌+ℤ◌}
use lib.Signed.{mag}
use mir.Syntax.{w32}
use mir.Val.{SFits, to_z, of_z}
use mir.ValLaws.{to_z-of_z, to_z_pos}
use Rattle.digits.proofs.Signed.{small_back, mag_add}
use Rattle.definitions.specs.Class.{Value}
use Rattle.definitions.specs.Format.{Format, reach}
use Rattle.operands.specs.Operand.{place_in, value_in}
use Rattle.operands.specs.declared.Operand.TheVariants.{Finite}
use Rattle.operands.specs.declared.Unpacked.{Unpacked}
use Rattle.shapes.specs.Shape.{Sound}
use Rattle.packing.specs.Stands.{StandsValue}
use Rattle.packing.proofs.Standing.{smallest_small}
use Rattle.packing.proofs.Places.{Placed, top_place, placed}
use Rattle.powers.specs.Power.{offset_of}
use Rattle.powers.proofs.Powers.{offset_small}
use Rattle.powers.proofs.Scaled.{place, scaled_infinite, scaled_exact, scaled_rounded}
use Rattle.powers.proofs.value.scale_value.Goals as goal

-- the format and the value that the code is handed
module _ (f : Format) (ok : Sound f) (u : Unpacked) (stands : StandsValue f (Finite u)) where
  abbrev v : Value
  v = value_in f.smallest u

  value : Placed f v u
  value = placed f ok u stands

  reach-small : reach f < 2 ^ 16
  reach-small = omega (arith, ok.narrow, ok.short)

  exponent-back : to_z w32 (of_z w32 u.exponent) ≡ u.exponent
  exponent-back = small_back u.exponent (omega (arith, value.small))

  -- the signed numbers are read back as they were written
  module _ (s : ℤ) (s-is : s ≡ f.smallest) where
    smallest-back : to_z w32 (of_z w32 s) ≡ f.smallest
    smallest-back = rw s-is (small_back f.smallest (omega (arith, smallest_small f ok)))

    -- the largest place
    topped : (t b : ℕ) → t ≡ place_in (to_z w32 (of_z w32 s)) (to_z w32 b) → b ≡ f.bias → t + 1 ≡ reach f
    topped t b is b-is = rw is (rw (smallest-back, b-is, to_z_pos w32 f.bias (omega (arith, ok.short))) (top_place f ok))

    -- the exponent of a place
    module _ (z : ℤ) (i : ℕ) (e : z ≡ to_z w32 (of_z w32 s) +ℤ pos i) (l : i < 2 ^ 19) where
      is : z ≡ f.smallest +ℤ pos i
      is = rw smallest-back at e

      small : mag z < 2 ^ 20
      small = rw is (omega (arith, mag_add f.smallest (pos i), smallest_small f ok))

      read_back : to_z w32 (of_z w32 z) ≡ f.smallest +ℤ pos i
      read_back = small_back z (omega (arith, small)) ∙ is

    -- the place of the value scaled by a power
    module _ (k : ℤ) (fits : SFits w32 k) (t o : ℕ) (t-is : t ≡ place_in (to_z w32 (of_z w32 s)) (to_z w32 (of_z w32 u.exponent))) (o-is : o ≡ offset_of (to_z w32 (of_z w32 k))) where
      counted : t + o ≡ place f ok v u value k
      counted = rw (t-is, o-is, smallest-back, exponent-back, to_z-of_z w32 k fits) refl

      place-small : t + o < 2 ^ 18
      place-small = omega (arith, counted, reach-small, value.range, offset_small k)

pub place_of-requires : goal.place_of-requires
place_of-requires g c =
    let f = g.F.Format.format in
    let ok = g.met.F.Format.sound in
    let u = c.args.value in
    let h = c.requires in
    let p = value f ok u h in
    rw (exponent-back f ok u h, smallest-back f ok u h _ (c.SMALLEST.ensures ∙ g.met.F.Format.smallest_is)) (p.above, omega (arith, reach-small f ok u h, p.range))

pub overflow_add-place : goal.overflow_add-place
overflow_add-place g c =
    let small = place-small g.F.Format.format g.met.F.Format.sound c.args.value c.requires _ (c.SMALLEST.ensures ∙ g.met.F.Format.smallest_is)
    c.args.power c.ranges.power _ _ c.place_of.ensures c.offset.ensures in
    omega (arith, small)

pub returns-then-place_of-low : goal.returns-then-place_of-low
returns-then-place_of-low g c =
    let f = g.F.Format.format in
    let ok = g.met.F.Format.sound in
    let u = c.args.value in
    let h = c.requires in
    let top = topped f ok u h _ (c.SMALLEST-2.ensures ∙ g.met.F.Format.smallest_is) _ _ c.place_of-2.ensures (c.BIAS.ensures ∙ g.met.F.Format.bias_is) in
    let counts = counted f ok u h _ (c.SMALLEST.ensures ∙ g.met.F.Format.smallest_is) c.args.power c.ranges.power _ _ c.place_of.ensures c.offset.ensures in
    sym (scaled_infinite f ok (v f ok u h) u (value f ok u h) c.args.power (omega (arith, counts, top)))

pub returns-then-low-place : goal.returns-then-low-place
returns-then-low-place g c =
    let f = g.F.Format.format in
    let ok = g.met.F.Format.sound in
    let u = c.args.value in
    let h = c.requires in
    let top = topped f ok u h _ (c.SMALLEST-2.ensures ∙ g.met.F.Format.smallest_is) _ _ c.place_of-2.ensures (c.BIAS.ensures ∙ g.met.F.Format.bias_is) in
    let at = c.SMALLEST.ensures ∙ g.met.F.Format.smallest_is in
    let counts = counted f ok u h _ at c.args.power c.ranges.power _ _ c.place_of.ensures c.offset.ensures in
    let small = place-small f ok u h _ at c.args.power c.ranges.power _ _ c.place_of.ensures c.offset.ensures in
    rw (c.normalise.ensures, read_back f ok u h _ (c.SMALLEST-then-low-place.ensures ∙ g.met.F.Format.smallest_is) _ _ c.exponent_at-exponent.ensures (omega (arith, small)), counts)
    (sym (scaled_exact f ok (v f ok u h) u (value f ok u h) c.args.power (omega (arith, counts, top)) (omega (arith, counts))))

pub returns : goal.returns
returns g c =
    let f = g.F.Format.format in
    let ok = g.met.F.Format.sound in
    let u = c.args.value in
    let h = c.requires in
    let top = topped f ok u h _ (c.SMALLEST-2.ensures ∙ g.met.F.Format.smallest_is) _ _ c.place_of-2.ensures (c.BIAS.ensures ∙ g.met.F.Format.bias_is) in
    let counts = counted f ok u h _ (c.SMALLEST.ensures ∙ g.met.F.Format.smallest_is) c.args.power c.ranges.power _ _ c.place_of.ensures c.offset.ensures in
    rw (c.normalise-2.ensures, read_back f ok u h _ (c.SMALLEST-3.ensures ∙ g.met.F.Format.smallest_is) _ _ c.exponent_at.ensures (omega arith), c.round_places-rounded.ensures, counts)
    (sym (scaled_rounded f ok (v f ok u h) u (value f ok u h) c.args.power (omega (arith, counts, top)) (omega (arith, counts))))
