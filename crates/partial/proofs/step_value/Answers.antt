-- `step_value` meets its contract: a zero and an infinite divisor leave the value as it is, and two finite values step.
use Rattle.definitions.specs.Steps.{step}
use Rattle.operands.specs.Operand.{class_in}
use Rattle.partial.proofs.Kept.{unbounded_step, step_other}
use Rattle.partial.proofs.step_value.Goals as goal

pub returns-in_default : goal.returns-in_default
returns-in_default c =
    let a = c.args in
    rw c.in_default.is-1 (unbounded_step a.kind a.size a.x c.requires.0)

pub returns-in_default-2 : goal.returns-in_default-2
returns-in_default-2 c =
    let a = c.args in
    step_other a.kind a.size a.y c.requires.1 a.x c.in_default.not-Finite-0 c.requires.0

pub returns : goal.returns
unfolding class_in step
returns c = rw (c.in-Finite-Some.is-0, c.in-Finite-Some.is-1) c.step_pair.ensures
