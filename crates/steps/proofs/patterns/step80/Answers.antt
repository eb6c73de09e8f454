-- `step80` meets its contract: two normal numbers by their own way, and any two patterns by the general one.
use mathlib.Core.Path.{sym, ◌∙◌}
use native.Mathlib.Omega.{arith}
use Rattle.digits.proofs.Tests.{and_false}
use Rattle.definitions.specs.Format.{x87, words}
use Rattle.definitions.specs.Reports.{sized}
use Rattle.definitions.proofs.Facts.{told_sized}
use Rattle.quick.proofs.Normals.{normal_denormal}
use Rattle.quick_x87.proofs.Parts.{both}
use Rattle.steps.proofs.patterns.step80.Goals as goal

pub returns-clause-denormal : goal.returns-clause-denormal
returns-clause-denormal c =
    let a = c.args in
    let x = words a.x.word a.x.significand in
    let y = words a.y.word a.y.significand in
    let b = both a.x.significand a.x.word a.y.significand a.y.word (omega arith) (omega arith) (omega arith) (omega arith) (sym c.are_normal.ensures ∙ c.if-not-are_normal.false) in
    sym ((told_sized a.kind a.size 0 x y).0 ∙ rw (normal_denormal x87 x b.0.normal, normal_denormal x87 y b.1.normal) (and_false (sized a.size)))
