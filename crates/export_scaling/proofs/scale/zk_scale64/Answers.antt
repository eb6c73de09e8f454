-- `zk_scale64` meets its contract: what it writes is what the scaling tells.
use mathlib.Core.Path.{◌≡◌}
use lib.Dec.{lit≤}
use mir.Syntax.{w32}
use mir.ValLaws.{to_z-of_z}
use Rattle.definitions.specs.Format.{binary64}
use Rattle.definitions.specs.Scale.{scale_report}
use Rattle.definitions.specs.Answers.{scale_meaning}
use Rattle.laws.proofs.Regular.{regular64}
use Rattle.export_scaling.proofs.WrittenScale.{scaled, number_is}
use Rattle.export_scaling.proofs.scale.zk_scale64.Goals.{After-scale}
use Rattle.export_scaling.proofs.scale.zk_scale64.Goals as goal

told : (c : After-scale) → let a = c.args in scale_meaning c.scale.result.answer ≡ scale_report binary64 a.x a.power
told c = rw (to_z-of_z w32 c.args.power c.ranges.power) at c.scale.ensures.answer

pub returns-in-Ok : goal.returns-in-Ok
returns-in-Ok c =
    let w = scaled binary64 regular64 _ _ _ (told (goal.at.returns-in-Ok c).After-scale) _ c.in-Ok.is _ c.into.ensures (lit≤ tt) in
    record { number = w.0; value = w.1.0; says = w.1.1 }

pub returns-in-Err-clause-number : goal.returns-in-Err-clause-number
returns-in-Err-clause-number c = number_is binary64 regular64 _ _ _ (told (goal.at.returns-in-Err-clause-number c).After-scale) _ _ c.in-Err.is c.into-in-Err.ensures
