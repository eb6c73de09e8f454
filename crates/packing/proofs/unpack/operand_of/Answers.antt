-- `operand_of` meets its contract: each case of the fields is its class.
use mathlib.Core.Path.{◌≡◌, sym, ap, ◌∙◌}
use Prim.Native.Nat.{ℕ, ◌+◌, ◌-◌, ◌^◌, ◌≤◌, ◌<◌}
use native.Mathlib.Omega.{arith}
use lib.IntN.{ℤ, pos, ◌+ℤ◌}
use lib.Signed.{mag}
use mir.Syntax.{w32}
use mir.Val.{to_z, of_z}
use Rattle.digits.proofs.Signed.{small_back, mag_add}
use Rattle.operands.specs.Operand.{normal_of}
use Rattle.packing.proofs.Standing.{smallest_small, smallest_back}
use Rattle.shapes.proofs.Weights.{top_le}
use Rattle.packing.proofs.Reading.{field_le, low, unnormal, infinite_top, nan_top, high}
use Rattle.packing.proofs.unpack.operand_of.Goals as goal

-- an exponent a little above a small one is read back as it was written
exponent_back : (s e : ℤ) (k : ℕ) → mag s < 2 ^ 15 → e ≡ s +ℤ pos k → k < 2 ^ 16 → to_z w32 (of_z w32 e) ≡ e
exponent_back s e k small is low = small_back e (let b : mag e < 2 ^ 17 = rw is (omega (arith, mag_add s (pos k))) in omega arith)

pub returns-then-field-eq0 : goal.returns-then-field-eq0
returns-then-field-eq0 g c =
    let f = g.F.Format.format in
    let ok = g.met.F.Format.sound in
    let r = c.fields_of-fields.result in
    let small = smallest_small f ok in
    let exponent = c.exponent_at.ensures ∙ ap (λ (z : ℤ). z +ℤ pos 63) (smallest_back f ok _ (c.SMALLEST.ensures ∙ g.met.F.Format.smallest_is)) in
    c.normalise.ensures
    ∙ ap (normal_of r.negative r.stored) (exponent_back f.smallest _ 63 small exponent (omega arith) ∙ exponent)
    ∙ low f ok _ r c.fields_of-fields.ensures c.if-field-eq0.true

pub returns-then-significand-leading : goal.returns-then-significand-leading
returns-then-significand-leading g c =
    unnormal g.F.Format.format g.met.F.Format.sound _ c.fields_of-fields.result c.fields_of-fields.ensures _ c.hidden_part.ensures c.if-field-eq0.false
    (omega arith)

pub returns-then-significand-leading-2 : goal.returns-then-significand-leading-2
returns-then-significand-leading-2 g c =
    infinite_top g.F.Format.format g.met.F.Format.sound _ c.fields_of-fields.result c.fields_of-fields.ensures _ c.hidden_part.ensures c.if-field-eq0.false
    (omega arith) (c.if-field-top_field.true ∙ c.top_field.ensures) (c.if-significand-leading-2.true ∙ c.leading_weight-leading.ensures)

pub returns-then-field-top_field : goal.returns-then-field-top_field
returns-then-field-top_field g c =
    nan_top g.F.Format.format g.met.F.Format.sound _ c.fields_of-fields.result c.fields_of-fields.ensures _ c.hidden_part.ensures c.if-field-eq0.false
    (omega arith) (c.if-field-top_field.true ∙ c.top_field.ensures) (λ q. c.if-significand-leading-2.false (q ∙ sym c.leading_weight-leading.ensures))

pub returns : goal.returns
returns g c =
    let f = g.F.Format.format in
    let ok = g.met.F.Format.sound in
    let r = c.fields_of-fields.result in
    let small = smallest_small f ok in
    let field_small : r.field ≤ 32767 =
    let l = field_le f ok _ r c.fields_of-fields.ensures in
    omega (arith, top_le f ok)
    in
    let exponent = c.exponent_at-2.ensures ∙ ap (λ (z : ℤ). z +ℤ pos (r.field - 1 + 63)) (smallest_back f ok _ (c.SMALLEST-2.ensures ∙ g.met.F.Format.smallest_is)) in
    c.normalise-2.ensures
    ∙ ap (normal_of r.negative (c.hidden_part.result + r.stored)) (exponent_back f.smallest _ (r.field - 1 + 63) small exponent (omega (arith, field_small)) ∙ exponent)
    ∙ high f ok _ r c.fields_of-fields.ensures _ c.hidden_part.ensures c.if-field-eq0.false
    (omega arith) (λ q. c.if-field-top_field.false (q ∙ sym c.top_field.ensures))
