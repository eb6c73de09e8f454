-- `remainder_short` meets its contract: what is quick is finished, and neither operand is denormal.
use mathlib.Core.Path.{sym, ◌∙◌}
use Rattle.quick_short.proofs.Fields.{both_normal}
use Rattle.remainder.proofs.OfPatterns.{normals_told}
use Rattle.remainder.proofs.patterns.remainder_short.Goals as goal

pub returns-then-is_quick : goal.returns-then-is_quick
returns-then-is_quick g c =
    let f = g.F.Format.format in
    let a = c.args in
    let x = g.F.Format.bits a.x in
    let y = g.F.Format.bits a.y in
    let t = c.told in
    let i = c.word-dividend.ensures.bits in
    let j = c.word-divisor.ensures.bits in
    let quick = rw (i, j) at (sym c.is_quick.ensures ∙ c.if-is_quick.true) in
    let answer = rw (i, j) at c.remainder_quick.ensures in
    let n = both_normal f g.met.F.Short.short x y a.kind quick in
    let k = normals_told f a.kind x y n.0 n.1 c.remainder_quick.result t.result t.ensures.answer t.ensures.denormal answer in
    record { answer = k.0; denormal = k.1 }
