-- `GaugeFields.is_good` meets its contract.
use borrow.Author.Tests.{eq-eqb, ne_eqb}
use Rattle.gauges.proofs.Judged.{fields_good}
use Rattle.gauges.proofs.GaugeFields.is_good.Goals as goal

pub returns-then-self-ne0 : goal.returns-then-self-ne0
returns-then-self-ne0 c =
    let a = c.args.self in
    rw (fields_good a.kind a.period a.origin c.from.result c.from.ensures, ← c.is_good.ensures, c.if-is_good.true, ne_eqb _ _ c.if-self-ne0.true)

pub returns-else-self-ne0 : goal.returns-else-self-ne0
returns-else-self-ne0 c =
    let a = c.args.self in
    rw (fields_good a.kind a.period a.origin c.from.result c.from.ensures, ← c.is_good.ensures, c.if-is_good.true, eq-eqb _ _ c.if-self-ne0.false)

pub returns-else-is_good : goal.returns-else-is_good
returns-else-is_good c =
    let a = c.args.self in
    rw (fields_good a.kind a.period a.origin c.from.result c.from.ensures, ← c.is_good.ensures, c.if-is_good.false)
