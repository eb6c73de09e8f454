-- `from_infinite` meets its contract, case by case.
use mathlib.Core.Path.{ap, ◌∙◌}
use Rattle.operands.specs.Operand.{operand_of, class_in}
use Rattle.definitions.specs.Difference.{difference_class}
use Rattle.difference.proofs.Cases.{less_none, infinite_less}
use Rattle.difference.proofs.patterns.from_infinite.Goals as goal

pub returns-then-negative-other : goal.returns-then-negative-other
unfolding operand_of class_in difference_class
returns-then-negative-other g c = rw (← c.operand.ensures.is, c.in-Infinite.is, c.if-negative-other.true) c.house_operand-then-negative-other.ensures

pub returns-in-Unsupported : goal.returns-in-Unsupported
returns-in-Unsupported g c =
    let f = g.F.Format.format in
    rw (← c.operand.ensures.is) (c.house_operand.ensures ∙ ap (operand_of f.smallest) (less_none f c.operand.result _ c.in-Unsupported.is))

pub returns-else-negative-other : goal.returns-else-negative-other
unfolding operand_of class_in difference_class
returns-else-negative-other g c = rw (← c.operand.ensures.is, c.in-Infinite.is, c.if-negative-other.false)

pub returns-in-Zero : goal.returns-in-Zero
returns-in-Zero g c =
    let f = g.F.Format.format in
    rw (← c.operand.ensures.is) (infinite_less f c.operand.result c.args.negative c.in-Zero.is)
