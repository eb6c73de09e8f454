-- `is_positive` meets its contract.
use mathlib.Core.Path.{◌∙◌}
use Rattle.gauges.proofs.Judged.{positive_is, not_positive}
use Rattle.gauges.proofs.is_positive.Goals as goal

pub returns-in-Finite : goal.returns-in-Finite
returns-in-Finite c =
    positive_is c.args.pattern c.operand-operand.result (c.operand-operand.ensures.is ∙ c.unpack.ensures) _ c.in-Finite.is

pub returns-in_default : goal.returns-in_default
returns-in_default c =
    not_positive c.args.pattern c.operand-operand.result (c.operand-operand.ensures.is ∙ c.unpack.ensures) c.in_default.not-Finite
