-- `run_value` meets its contract: the loop's invariant is the run itself, with as many steps as the loop has taken.
use Rattle.definitions.specs.Format.{x87}
use Rattle.operands.specs.Operand.{value_operand, divisor_in}
use Rattle.runs.proofs.Loop.{Reached}
use Rattle.runs.proofs.run_value.Given as goal

abbrev pub invariant-loop-taken : goal.invariant-loop-taken
invariant-loop-taken l =
    Reached l.kind l.size (divisor_in x87.smallest l.y) (value_operand x87.smallest l.initial.value) l.value l.quotient l.taken
