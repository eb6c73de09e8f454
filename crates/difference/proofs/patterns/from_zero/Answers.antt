-- `from_zero` meets its contract, case by case.
use mathlib.Core.Path.{ap, ◌∙◌, subst, sym}
use mathlib.Core.Bool.{Bool, false, cond}
use Rattle.definitions.specs.Difference.{difference_class}
use Rattle.operands.specs.Operand.{operand_of, class_in}
use Rattle.operands.specs.declared.Operand.TheVariants.{Zero, Finite}
use Rattle.packing.specs.Stands.{Stands}
use Rattle.packing.proofs.Standing.{stands_unpacked}
use Rattle.difference.proofs.Zeros.{zero_zero, zero_less}
use Rattle.difference.proofs.Cases.{less_none}
use Rattle.difference.proofs.patterns.from_zero.Goals as goal

pub returns-then-negative-other : goal.returns-then-negative-other
unfolding operand_of class_in difference_class
returns-then-negative-other g c =
    rw (← c.operand.ensures.is, c.in-Zero.is)
    (ap (λ (b : Bool). Zero (cond b false c.args.negative)) (sym c.if-negative-other.true)
    ∙ zero_zero g.F.Format.format g.met.F.Format.sound c.args.negative c.in-Zero.other)

pub returns-in-Unsupported : goal.returns-in-Unsupported
returns-in-Unsupported g c =
    let f = g.F.Format.format in
    rw (← c.operand.ensures.is) (c.house_operand.ensures ∙ ap (operand_of f.smallest) (less_none f c.operand.result _ c.in-Unsupported.is))

pub returns-in-Infinite : goal.returns-in-Infinite
unfolding operand_of class_in difference_class
returns-in-Infinite g c = rw (← c.operand.ensures.is, c.in-Infinite.is)

pub returns-else-negative-other : goal.returns-else-negative-other
unfolding operand_of class_in difference_class
returns-else-negative-other g c =
    rw (← c.operand.ensures.is, c.in-Zero.is)
    (ap (λ (b : Bool). Zero (cond b false c.args.negative)) (sym c.if-negative-other.false)
    ∙ zero_zero g.F.Format.format g.met.F.Format.sound c.args.negative c.in-Zero.other)

pub returns-in-Finite : goal.returns-in-Finite
unfolding operand_of class_in difference_class
returns-in-Finite g c =
    let f = g.F.Format.format in
    let stands = stands_unpacked f g.met.F.Format.sound c.in-Finite.value (subst (Stands f) c.in-Finite.is c.operand.ensures.stands) in
    rw (← c.operand.ensures.is, c.in-Finite.is) (ap Finite c.opposite.ensures ∙ zero_less f g.met.F.Format.sound c.in-Finite.value stands c.args.negative)
