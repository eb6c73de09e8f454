-- `shifted` meets its contract.
use mathlib.Core.Path.{sym, ap, ◌∙◌}
use Prim.Native.Nat.{ℕ}
use Rattle.definitions.specs.Format.{binary64}
use Rattle.definitions.specs.Difference.{difference}
use Rattle.points.proofs.Folded.{shifted_turn, shifted_roller}
use Rattle.points.proofs.shifted.Goals as goal

pub returns-in-Turn : goal.returns-in-Turn
returns-in-Turn c = sym (shifted_turn c.args.gauge _ c.args.reading c.in-Turn.is)

pub returns-in-Roller : goal.returns-in-Roller
returns-in-Roller c =
    let a = c.args in
    c.difference64.ensures
    ∙ ap (λ (o : ℕ). difference binary64 a.reading o) c.pattern_of.ensures
    ∙ sym (shifted_roller a.gauge _ _ a.reading c.in-Roller.is)
