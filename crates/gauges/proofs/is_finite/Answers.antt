-- `is_finite` meets its contract.
use mathlib.Core.Path.{◌∙◌}
use Rattle.checks.specs.Verdict.{infinite_operand}
use Rattle.gauges.proofs.Judged.{neither_first, neither_second, bad_is}
use Rattle.gauges.proofs.is_finite.Goals as goal

pub returns-then-not-is_nan : goal.returns-then-not-is_nan
returns-then-not-is_nan c =
    rw (← bad_is c.args.pattern c.operand-operand.result (c.operand-operand.ensures.is ∙ c.unpack.ensures), ← c.is_nan.ensures, ← c.is_infinite.ensures)
    (neither_second c.is_nan.result c.is_infinite.result c.if-not-is_nan.true)

pub returns-else-not-is_nan : goal.returns-else-not-is_nan
returns-else-not-is_nan c =
    rw (← bad_is c.args.pattern c.operand-operand.result (c.operand-operand.ensures.is ∙ c.unpack.ensures), ← c.is_nan.ensures)
    (neither_first c.is_nan.result (infinite_operand c.operand-operand.result) c.if-not-is_nan.false)
