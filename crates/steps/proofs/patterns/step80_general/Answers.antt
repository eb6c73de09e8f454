-- `step80_general` meets its contract: a step is a call of budget one, on what the patterns stand for.
use mathlib.Core.Path.{refl, sym, ◌∙◌}
use Rattle.definitions.specs.Format.{words}
use Rattle.definitions.proofs.Facts.{told_sized}
use Rattle.steps.proofs.Called.{step_report_lem}
use Rattle.steps.proofs.patterns.step80_general.Goals as goal

pub returns : goal.returns
returns c =
    let a = c.args in
    let x = words a.x.word a.x.significand in
    let y = words a.y.word a.y.significand in record {
      answer = c.call.ensures 1 refl ∙ step_report_lem x y c.unpack.result c.unpack-2.result c.unpack.ensures c.unpack-2.ensures a.kind a.size;
      denormal = c.told_denormal.ensures ∙ sym (told_sized a.kind a.size 0 x y).0;
    }
