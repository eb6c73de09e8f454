-- `remainder_counted` meets its contract: a refusal has the number of the first check that applies, and an accepted pair is divided.
use mathlib.Core.Path.{◌≡◌}
use Rattle.definitions.specs.Numbers.{first, dividing}
use Rattle.operands.specs.Operand.{class_in}
use Rattle.checks.proofs.Judged.{refused_number, accepted_number}
use Rattle.packing.proofs.Standing.{divisor_stands}
use Rattle.remainder.proofs.OfOperands.{refused_none, refused, dividend_stands, answered}
use Rattle.remainder.proofs.divided.remainder_counted.Given.{Over}
use Rattle.remainder.proofs.divided.remainder_counted.Goals.{In_default}
use Rattle.remainder.proofs.divided.remainder_counted.Goals as goal

accepted : (g : Over) (c : In_default g) → let s = g.F.Format.format.smallest in first (dividing (class_in s c.operand-dividend.result) (class_in s c.operand-divisor.result)) ≡ 0
accepted g c = accepted_number _ _ c.in_default.is (c.judge_pair.ensures g.F.Format.format.smallest _ _ c.operand-dividend.ensures.stands.is c.operand-divisor.ensures.stands.is)

pub returns-in-Err : goal.returns-in-Err
returns-in-Err g c =
    let f = g.F.Format.format in
    let ok = g.met.F.Format.sound in
    let a = c.args in
    let r = c.refused in
    let n = refused_number _ _ _ c.in-Err.is (c.judge_pair.ensures f.smallest _ _ c.operand-dividend.ensures.stands.is c.operand-divisor.ensures.stands.is) in
    rw (← c.operand-dividend.ensures.is, ← c.operand-divisor.ensures.is) (record {
      answer = refused f ok c.operand-dividend.result c.operand-divisor.result a.kind _ r.result n r.ensures.why (rw (← c.operand-dividend.ensures.is, ← c.operand-divisor.ensures.is) at r.ensures.value);
      divisions = refused_none f ok c.operand-dividend.result c.operand-divisor.result c.operand-divisor.ensures.stands c.in-Err.why n;
    })

pub divide_by_counted-counted-requires : goal.divide_by_counted-counted-requires
divide_by_counted-counted-requires g c =
    let f = g.F.Format.format in
    let ok = g.met.F.Format.sound in
    let a = c.args in
    let none = accepted g (goal.at.divide_by_counted-counted-requires g c).In_default in
    (dividend_stands f ok c.operand-dividend.result c.operand-divisor.result a.kind none c.operand-dividend.ensures.stands, rw c.divisor_of.ensures (divisor_stands f ok c.operand-divisor.result c.operand-divisor.ensures.stands))

pub returns-clause-answer : goal.returns-clause-answer
returns-clause-answer g c =
    let a = c.args in
    let none = accepted g (goal.at.returns-clause-answer g c).In_default in
    let e = rw c.divisor_of.ensures at c.divide_by_counted-counted.ensures in
    rw (← c.operand-dividend.ensures.is, ← c.operand-divisor.ensures.is) (answered g.F.Format.format g.met.F.Format.sound c.operand-dividend.result c.operand-divisor.result a.kind none c.divide_by_counted-counted.result.value (e.value, e.quotient))
