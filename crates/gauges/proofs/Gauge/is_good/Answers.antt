-- `Gauge.is_good` meets its contract.
use mathlib.Core.Path.{sym, ap, ◌∙◌}
use Prim.Native.Nat.{ℕ}
use Rattle.definitions.specs.Format.{binary64, class_of}
use Rattle.definitions.specs.Stem.{is_positive}
use Rattle.gauges.proofs.Judged.{turn_good, roller_good}
use Rattle.gauges.proofs.Gauge.is_good.Goals as goal

pub returns-in-Turn : goal.returns-in-Turn
returns-in-Turn c =
    c.is_positive.ensures
    ∙ ap (λ (b : ℕ). is_positive (class_of binary64 b)) c.pattern_of.ensures
    ∙ sym (turn_good c.args.self _ c.in-Turn.is)

pub returns-then-is_positive : goal.returns-then-is_positive
returns-then-is_positive c =
    c.is_finite.ensures
    ∙ rw (roller_good c.args.self _ _ c.in-Roller.is, ← c.pattern_of-in-Roller.ensures, ← c.is_positive-in-Roller.ensures, c.if-is_positive.true, ← c.pattern_of-then-is_positive.ensures)

pub returns-else-is_positive : goal.returns-else-is_positive
returns-else-is_positive c =
    rw (roller_good c.args.self _ _ c.in-Roller.is, ← c.pattern_of-in-Roller.ensures, ← c.is_positive-in-Roller.ensures, c.if-is_positive.false)
