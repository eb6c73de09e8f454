-- `run80` meets its contract: a run is a call of its budget, on what the patterns stand for.
use mathlib.Core.Path.{refl, sym, ◌∙◌}
use Rattle.definitions.specs.Format.{words}
use Rattle.definitions.proofs.Facts.{told_sized}
use Rattle.steps.proofs.Called.{run_report_lem}
use Rattle.steps.proofs.patterns.run80.Goals as goal

pub returns : goal.returns
returns c =
    let a = c.args in
    let x = words a.x.word a.x.significand in
    let y = words a.y.word a.y.significand in record {
      answer = c.call.ensures 7 refl ∙ run_report_lem x y c.unpack.result c.unpack-2.result c.unpack.ensures c.unpack-2.ensures a.kind a.size a.budget;
      denormal = c.told_denormal.ensures ∙ sym (told_sized a.kind a.size a.budget x y).1;
    }
