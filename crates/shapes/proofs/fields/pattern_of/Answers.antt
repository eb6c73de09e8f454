-- `pattern_of` meets its contract: the field with the sign over it, above the stored significand.
use mathlib.Core.Path.{sym, ◌∙◌}
use Prim.Native.Nat.{◌+◌, ◌*◌, ◌^◌, ◌<◌}
use native.Mathlib.Nat.{zero-add}
use native.Mathlib.Omega.{arith}
use Rattle.laws.proofs.Layouts.{hidden_weight}
use Rattle.shapes.proofs.Words.{above_pattern, hidden_word}
use Rattle.shapes.proofs.fields.pattern_of.Goals as goal

pub overflow_mul-result : goal.overflow_mul-result
overflow_mul-result g c =
    let r = c.args.fields in
    let hidden = sym g.met.F.Format.layout_is ∙ sym c.LAYOUT.ensures ∙ c.in-Hidden.is in
    let word : c.above-above.result * c.leading_weight.result + r.stored < 2 ^ 64 =
    rw (c.leading_weight.ensures, c.above-above.ensures) (hidden_word g.F.Format.format r.field r.stored g.met.F.Format.sound hidden c.requires.0 c.requires.1 r.negative)
    in
    omega (arith, word)

pub overflow_add-result : goal.overflow_add-result
overflow_add-result g c =
    let r = c.args.fields in
    let hidden = sym g.met.F.Format.layout_is ∙ sym c.LAYOUT.ensures ∙ c.in-Hidden.is in
    rw (c.leading_weight.ensures, c.above-above.ensures)
    (record { fits = hidden_word g.F.Format.format r.field r.stored g.met.F.Format.sound hidden c.requires.0 c.requires.1 r.negative })

pub returns-in-Hidden : goal.returns-in-Hidden
returns-in-Hidden g c =
    let f = g.F.Format.format in
    let r = c.args.fields in
    let hidden = sym g.met.F.Format.layout_is ∙ sym c.LAYOUT.ensures ∙ c.in-Hidden.is in
    rw (zero-add, c.leading_weight.ensures, c.above-above.ensures, ← hidden_weight f hidden) (above_pattern f r.field r.stored r.negative)
