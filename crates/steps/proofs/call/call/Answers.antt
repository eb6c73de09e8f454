-- `call` meets its contract: what the checks come to decides between a refusal and a run.
use mathlib.Core.Path.{◌∙◌}
use Rattle.definitions.specs.Format.{x87}
use Rattle.operands.specs.Operand.{class_in}
use Rattle.steps.proofs.Called.{refused_call, ready_call, ran_writable, ran_call}
use Rattle.steps.proofs.call.call.Goals as goal

pub returns-in-Err : goal.returns-in-Err
returns-in-Err c u ok =
    let a = c.args in
    let x = c.operand-dividend in
    let y = c.operand-divisor in
    let told = c.in-Err.ensures x87.smallest (class_in x87.smallest x.result) (class_in x87.smallest y.result) x.ensures.stands.is y.ensures.stands.is in
    refused_call u a.kind a.size a.budget (class_in x87.smallest a.x) (class_in x87.smallest a.y) c.in-Err.why c.refused.result
    (rw (x.ensures.is, y.ensures.is) at told) c.refused.ensures.why c.refused.ensures.value

pub run_value-requires : goal.run_value-requires
run_value-requires c =
    let x = c.operand-dividend in
    let y = c.operand-divisor in
    let none = c.in_default.ensures x87.smallest (class_in x87.smallest x.result) (class_in x87.smallest y.result) x.ensures.stands.is y.ensures.stands.is in
    rw c.divisor_of.ensures (ready_call x.result y.result x.ensures.stands y.ensures.stands c.args.size none)

pub answer-requires : goal.answer-requires
answer-requires c =
    let a = c.args in
    let x = c.operand-dividend in
    let y = c.operand-divisor in
    let none = c.in_default.ensures x87.smallest (class_in x87.smallest x.result) (class_in x87.smallest y.result) x.ensures.stands.is y.ensures.stands.is in
    ran_writable x.result y.result x.ensures.stands y.ensures.stands a.size none a.kind a.budget c.run_value.result (rw c.divisor_of.ensures at c.run_value.ensures)

pub returns : goal.returns
returns c u ok =
    let a = c.args in
    let x = c.operand-dividend in
    let y = c.operand-divisor in
    let none = c.in_default.ensures x87.smallest (class_in x87.smallest x.result) (class_in x87.smallest y.result) x.ensures.stands.is y.ensures.stands.is in
    rw (← x.ensures.is, ← y.ensures.is)
    (c.answer.ensures u ∙ ran_call x.result y.result x.ensures.stands y.ensures.stands a.size none a.kind a.budget c.run_value.result (rw c.divisor_of.ensures at c.run_value.ensures) u ok)
