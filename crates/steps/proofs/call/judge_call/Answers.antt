-- `judge_call` meets its contract: the size, then the operands.
use mathlib.Core.Path.{sym, ◌∙◌}
use Rattle.definitions.specs.Numbers.{dividing}
use Rattle.steps.proofs.Called.{missized, right_sized}
use Rattle.steps.proofs.call.judge_call.Goals as goal

pub returns-then-not-is_sized : goal.returns-then-not-is_sized
returns-then-not-is_sized c s a b ex ey =
    sym (missized c.args.size (dividing a b) (sym c.is_sized.ensures ∙ c.if-not-is_sized.true))

pub returns : goal.returns
returns c s a b ex ey =
    c.judge_pair.ensures s a b ex ey ∙ sym (right_sized c.args.size (dividing a b) (sym c.is_sized.ensures ∙ c.if-not-is_sized.false))
