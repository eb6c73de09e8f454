-- `divide_by_counted` meets its contract: a zero, or a value by an unbounded divisor, is packed as it is, and of two values what is left.
use mathlib.Core.Path.{◌∙◌, subst}
use mir.Syntax.{w32}
use mir.ValLaws.{to_z-of_z}
use Rattle.operands.specs.declared.Operand.TheVariants.{Finite}
use Rattle.operands.specs.Operand.{Ready}
use Rattle.packing.specs.Stands.{StandsValue, StandsDivisor}
use Rattle.packing.proofs.Standing.{value_stands, ready}
use Rattle.remainder.proofs.ByDivisor.{not_divided, by_unbounded, zero_kept, left_stands, left_written}
use Rattle.remainder.proofs.divided.divide_by_counted.Given.{Over}
use Rattle.remainder.proofs.divided.divide_by_counted.Goals.{In-Some}
use Rattle.remainder.proofs.divided.divide_by_counted.Goals as goal

module _ (g : Over) (c : In-Some g) where
  dividend : StandsValue g.F.Format.format (Finite c.in-Finite.a)
  dividend = subst (StandsValue g.F.Format.format) c.in-Finite.is c.requires.0

  divisor : StandsValue g.F.Format.format (Finite c.in-Some.b)
  divisor = subst (StandsDivisor g.F.Format.format) c.in-Some.is c.requires.1

  both_ready : Ready c.in-Finite.a × Ready c.in-Some.b
  both_ready = (ready g.F.Format.format g.met.F.Format.sound _ dividend, ready g.F.Format.format g.met.F.Format.sound _ divisor)

pub returns-in_default : goal.returns-in_default
returns-in_default g c =
    let k = c.in_default.not-Finite in
    let e = c.kept.ensures in
    let z = zero_kept g.F.Format.format g.met.F.Format.sound c.args.kind c.args.x _ _ e.value e.quotient k c.args.y c.requires.1 in record {
      value = z.0;
      quotient = z.1;
      divisions = e.divisions ∙ not_divided c.args.x k c.args.y;
    }

pub returns-in_default-y : goal.returns-in_default-y
returns-in_default-y g c =
    let e = c.kept-in_default-y.ensures in
    let u = by_unbounded g.F.Format.format g.met.F.Format.sound c.args.kind c.args.x _ _ (rw c.in-Finite.is e.value) e.quotient in
    rw c.in_default-y.is (record {
      value = u.0;
      quotient = u.1;
      divisions = rw c.in-Finite.is e.divisions;
    })

pub gap-requires : goal.gap-requires
gap-requires g c = both_ready g c

pub finish_counted-counted-requires : goal.finish_counted-counted-requires
finish_counted-counted-requires g c =
    let r = both_ready g (goal.at.finish_counted-counted-requires g c).In-Some in
    (r.0, r.1, to_z-of_z w32 c.gap.result (record { sfits = c.gap.type_inv }) ∙ c.gap.ensures)

pub new-requires : goal.new-requires
new-requires g c =
    let f = g.F.Format.format in
    let ok = g.met.F.Format.sound in
    let at = (goal.at.new-requires g c).In-Some in
    let left = c.finish_counted-counted in
    value_stands f ok _ (left_stands f ok c.args.kind _ _ (dividend g at) (divisor g at) left.result.value left.ensures.left)

pub returns : goal.returns
returns g c =
    let f = g.F.Format.format in
    let ok = g.met.F.Format.sound in
    let at = (goal.at.returns g c).In-Some in
    let left = c.finish_counted-counted in
    let w = left_written f ok c.args.kind _ _ (dividend g at) (divisor g at) left.result.value left.ensures.left _ _ (rw c.new.ensures at c.pack.ensures) c.quotient_bits.ensures in
    rw (c.in-Finite.is, c.in-Some.is) (record {
      value = w.0;
      quotient = w.1;
      divisions = left.ensures.divisions;
    })
