-- `write_and_open` meets its contract, by those of `write_fields` and `open_stem`.
use mathlib.Core.Path.{sym, ◌∙◌}
use native.Mathlib.Omega.{arith}
use lib.Seq.{length-take-le}
use Rattle.round_trips.proofs.RoundTrip.{written_fits, written_opens}
use Rattle.round_trips.proofs.write_and_open.Goals as goal

pub slice_bounds-open_stem-end : goal.slice_bounds-open_stem-end
slice_bounds-open_stem-end c =
    let a = c.args in
    written_fits a.fields.kind a.fields.period a.fields.origin a.readings.now a.radii.now a.room.now _ _ c.in_ok-written.ensures (omega arith) (omega arith)
    (λ i. omega (arith, c.type_inv.readings i)) (λ i. omega (arith, c.type_inv.radii i))

pub slice_bounds-open_stem-end-2 : goal.slice_bounds-open_stem-end-2
slice_bounds-open_stem-end-2 c =
    let a = c.args in
    sym (length-take-le _ _ (written_fits a.fields.kind a.fields.period a.fields.origin a.readings.now a.radii.now a.room.now _ _ c.in_ok-written.ensures (omega arith) (omega arith)
    (λ i. omega (arith, c.type_inv.readings i)) (λ i. omega (arith, c.type_inv.radii i))))

pub returns : goal.returns
returns c =
    let a = c.args in
    c.open_stem.ensures
    ∙ written_opens a.fields.kind a.fields.period a.fields.origin a.readings.now a.radii.now a.room.now _ _ c.in_ok-written.ensures (omega arith) (omega arith)
    (λ i. omega (arith, c.type_inv.readings i)) (λ i. omega (arith, c.type_inv.radii i))
