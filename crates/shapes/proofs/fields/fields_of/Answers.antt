-- `fields_of` meets its contract: the words hold the fields as the layout says.
use mathlib.Core.Path.{sym, ap, ◌∙◌}
use Prim.Native.Nat.{ℕ, ◌/◌, ◌%◌}
use Rattle.definitions.specs.Format.{top_field}
use Rattle.shapes.specs.Shape.{fields_above, fields_in}
use Rattle.shapes.proofs.Words.{hidden_above, hidden_fields}
use Rattle.shapes.proofs.fields.fields_of.Goals as goal

pub fields_above-requires : goal.fields_above-requires
fields_above-requires g c =
    let hidden = sym g.met.F.Format.layout_is ∙ sym c.LAYOUT.ensures ∙ c.in-Hidden.is in
    let l = hidden_above g.F.Format.format g.met.F.Format.sound c.words-words.result c.words-words.ensures.fits hidden in
    rw c.leading_weight-weight.ensures l

pub returns-in-Hidden : goal.returns-in-Hidden
returns-in-Hidden g c =
    let hidden = sym g.met.F.Format.layout_is ∙ sym c.LAYOUT.ensures ∙ c.in-Hidden.is in
    let f = g.F.Format.format in
    let low = c.words-words.result.low in
    c.fields_above.ensures
    ∙ ap (λ (h : ℕ). fields_above (top_field f) (low / h) (low % h)) c.leading_weight-weight.ensures
    ∙ hidden_fields f g.met.F.Format.sound c.words-words.result c.words-words.ensures.fits hidden
    ∙ ap (fields_in f) c.words-words.ensures.bits
