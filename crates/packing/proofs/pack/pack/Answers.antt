-- `pack` meets its contract, case by case.
use mathlib.Core.Path.{refl, ap, ◌∙◌, subst}
use native.Mathlib.Omega.{arith}
use Rattle.definitions.specs.Format.{pattern_of, with_sign}
use Rattle.operands.specs.declared.Operand.TheVariants.{Finite}
use Rattle.operands.specs.Operand.{class_in, value_in}
use Rattle.packing.specs.Stands.{Stands}
use Rattle.packing.proofs.Standing.{stands_finite}
use Rattle.packing.proofs.Packing.{magnitude_zero}
use Rattle.packing.proofs.pack.pack.Goals as goal

pub pattern_of-requires : goal.pattern_of-requires
unfolding class_in
pattern_of-requires g c =
    let k = subst (Stands g.F.Format.format) c.in-Nan.is c.operand.ensures.stands in
    rw c.top_field.ensures (omega arith, k.holds.below)

pub value_fields-requires : goal.value_fields-requires
unfolding class_in
value_fields-requires g c =
    let f = g.F.Format.format in
    let u = c.in-Finite.value in
    stands_finite f g.met.F.Format.sound (value_in f.smallest u) (Finite u) (subst (Stands f) c.in-Finite.is c.operand.ensures.stands) refl

pub returns-in-Unsupported : goal.returns-in-Unsupported
unfolding pattern_of class_in
returns-in-Unsupported g c = rw (← c.operand.ensures.is, c.in-Unsupported.is) c.house_nan.ensures

pub returns-in-Nan : goal.returns-in-Nan
unfolding pattern_of class_in
returns-in-Nan g c =
    rw (← c.operand.ensures.is, c.in-Nan.is) (rw c.top_field.ensures at c.pattern_of.ensures)

pub returns-in-Infinite : goal.returns-in-Infinite
unfolding pattern_of class_in
returns-in-Infinite g c =
    rw (← c.operand.ensures.is, c.in-Infinite.is) (rw (c.infinity_stored.ensures, c.top_field-in-Infinite.ensures) at c.pattern_of-in-Infinite.ensures)

pub returns-in-Zero : goal.returns-in-Zero
unfolding pattern_of class_in
returns-in-Zero g c =
    rw (← c.operand.ensures.is, c.in-Zero.is) (c.pattern_of-in-Zero.ensures ∙ ap (with_sign g.F.Format.format c.in-Zero.negative) (omega (arith, magnitude_zero g.F.Format.format)))

pub returns-in-Finite : goal.returns-in-Finite
unfolding pattern_of class_in
returns-in-Finite g c =
    let w = c.value_fields.ensures in
    rw (← c.operand.ensures.is, c.in-Finite.is) (rw (w.0, w.3) at c.pattern_of-in-Finite.ensures)
