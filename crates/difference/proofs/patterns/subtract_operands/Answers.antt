-- `subtract_operands` meets its contract, case by case.
use mathlib.Core.Path.{subst, ap, ◌∙◌}
use Rattle.packing.specs.Stands.{Stands}
use Rattle.packing.proofs.Standing.{stands_unpacked}
use Rattle.operands.specs.Operand.{operand_of, class_in}
use Rattle.definitions.specs.Difference.{difference_class}
use Rattle.difference.proofs.Cases.{none_less}
use Rattle.difference.proofs.patterns.subtract_operands.Goals as goal

pub from_value-requires : goal.from_value-requires
from_value-requires g c =
    let f = g.F.Format.format in
    stands_unpacked f g.met.F.Format.sound c.in-Finite.value (subst (Stands f) c.in-Finite.is c.operand.ensures.stands)

pub returns-in-Unsupported : goal.returns-in-Unsupported
returns-in-Unsupported g c =
    let f = g.F.Format.format in
    rw (← c.operand.ensures.is) (c.house_operand.ensures ∙ ap (operand_of f.smallest) (none_less f c.operand.result c.in-Unsupported.is _))

pub returns-in-Infinite : goal.returns-in-Infinite
unfolding operand_of class_in difference_class
returns-in-Infinite g c = rw (← c.operand.ensures.is, c.in-Infinite.is) c.from_infinite.ensures

pub returns-in-Zero : goal.returns-in-Zero
unfolding operand_of class_in difference_class
returns-in-Zero g c = rw (← c.operand.ensures.is, c.in-Zero.is) c.from_zero.ensures

pub returns-in-Finite : goal.returns-in-Finite
unfolding operand_of class_in difference_class
returns-in-Finite g c = rw (← c.operand.ensures.is, c.in-Finite.is) c.from_value.ensures
