-- `value_fields` meets its contract: a value without its leading digit has dropped none, and its field is 0.
use mathlib.Core.Path.{refl}
use native.Mathlib.Omega.{arith}
use Rattle.operands.specs.Operand.{class_in, value_in}
use Rattle.packing.proofs.Packing.{low_written, high_written}
use Rattle.packing.proofs.pack.value_fields.Goals as goal

pub returns-then-kept-leading_weight : goal.returns-then-kept-leading_weight
unfolding class_in
returns-then-kept-leading_weight g c =
    let h = g.F.Format.format in
    let t = c.trim-kept.ensures in
    let l = rw (t, c.leading_weight.ensures) at c.if-kept-leading_weight.true in
    let w = low_written g.F.Format.format g.met.F.Format.sound.regular (value_in h.smallest c.args.value).count c.requires.held l in
    rw t (refl, w.field, w.rest, w.is)

-- the field is found, however the code writes it: what is refused is a wrong one
pub returns-else-kept-leading_weight : goal.returns-else-kept-leading_weight
unfolding class_in
returns-else-kept-leading_weight g c =
    let h = g.F.Format.format in
    let t = c.trim-kept.ensures in
    let l = rw (t, c.leading_weight.ensures) at c.if-kept-leading_weight.false in
    let w = high_written g.F.Format.format g.met.F.Format.sound.regular (value_in h.smallest c.args.value).count c.requires.held l in
    rw (t, c.hidden_part.ensures) (refl, omega (arith, w.field), w.rest, omega (arith, w.is))
