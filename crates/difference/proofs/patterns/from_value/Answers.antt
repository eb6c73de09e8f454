-- `from_value` meets its contract, case by case.
use mathlib.Core.Path.{subst, ap, ◌∙◌}
use Rattle.definitions.specs.Difference.{difference_class}
use Rattle.operands.specs.Operand.{operand_of, class_in}
use Rattle.packing.specs.Stands.{Stands}
use Rattle.packing.proofs.Standing.{stands_unpacked}
use Rattle.difference.proofs.Zeros.{less_zero}
use Rattle.difference.proofs.Cases.{less_none}
use Rattle.difference.proofs.patterns.from_value.Goals as goal

pub subtract_values-requires : goal.subtract_values-requires
subtract_values-requires g c =
    let f = g.F.Format.format in
    (c.requires, stands_unpacked f g.met.F.Format.sound c.in-Finite.value (subst (Stands f) c.in-Finite.is c.operand.ensures.stands))

pub returns-in-Unsupported : goal.returns-in-Unsupported
returns-in-Unsupported g c =
    let f = g.F.Format.format in
    rw (← c.operand.ensures.is) (c.house_operand.ensures ∙ ap (operand_of f.smallest) (less_none f c.operand.result _ c.in-Unsupported.is))

pub returns-in-Infinite : goal.returns-in-Infinite
unfolding operand_of class_in difference_class
returns-in-Infinite g c = rw (← c.operand.ensures.is, c.in-Infinite.is)

pub returns-in-Zero : goal.returns-in-Zero
unfolding operand_of class_in difference_class
returns-in-Zero g c =
    rw (← c.operand.ensures.is, c.in-Zero.is) (less_zero g.F.Format.format g.met.F.Format.sound c.args.x c.requires c.in-Zero.field-0)

pub returns-in-Finite : goal.returns-in-Finite
unfolding operand_of class_in difference_class
returns-in-Finite g c = rw (← c.operand.ensures.is, c.in-Finite.is) c.subtract_values.ensures
