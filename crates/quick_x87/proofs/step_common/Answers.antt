-- `step_common` meets its contract: the gap decides between the remainder and the partial step.
use mathlib.Core.Path.{sym, ap, ◌∙◌}
use native.Mathlib.Omega.{arith}
use Rattle.definitions.specs.Remainder.{Remainder}
use Rattle.definitions.specs.Answers.{steps_meaning}
use Rattle.quick_x87.proofs.Parts.{Parts, both}
use Rattle.quick_x87.proofs.Steps.{near_report}
use Rattle.quick_x87.proofs.step_common.Goals as goal

pub returns-then-gap-lt64 : goal.returns-then-gap-lt64
unfolding steps_meaning
returns-then-gap-lt64 c =
    let p : Parts c.args.x.significand c.args.x.word × Parts c.args.y.significand c.args.y.word = both _ _ _ _ (omega arith) (omega arith) (omega arith) (omega arith) c.requires.0 in
    rw c.reached.ensures (ap (λ (z : Remainder). record { number = 0; value = z.value; quotient = z.quotient; steps = 1 }) c.remainder_common.ensures)
    ∙ sym (near_report _ _ p.0.normal p.1.normal c.args.size c.requires.2 c.args.kind (omega (arith, p.0.field, p.1.field, c.field_of.ensures, c.field_of-2.ensures, c.if-gap-lt64.true)))

pub returns-else-gap-lt64 : goal.returns-else-gap-lt64
unfolding steps_meaning
returns-else-gap-lt64 c = rw c.reached-else-gap-lt64.ensures (c.cut_common.ensures c.args.kind)
