-- `write_and_take` meets its contract, by those of `write_fields`, `points_of` and `patterns_at`.
use mathlib.Core.Path.{sym, ap, ◌∙◌}
use mathlib.Core.List.{List}
use Prim.Native.Nat.{ℕ}
use native.Mathlib.Omega.{arith}
use lib.Seq.{length-take-le}
use Rattle.stems.specs.Opened.{patterns_placed}
use Rattle.round_trips.proofs.RoundTrip.{written_fits, written_points}
use Rattle.round_trips.proofs.write_and_take.Goals as goal

pub slice_bounds-points_of-end : goal.slice_bounds-points_of-end
slice_bounds-points_of-end c =
    let a = c.args in
    written_fits a.fields.kind a.fields.period a.fields.origin a.readings.now a.radii.now a.room.now _ _ c.in-Ok.ensures (omega arith) (omega arith)
    (λ i. omega (arith, c.type_inv.readings i)) (λ i. omega (arith, c.type_inv.radii i))

pub slice_bounds-points_of-end-in-Ok : goal.slice_bounds-points_of-end-in-Ok
slice_bounds-points_of-end-in-Ok c =
    let a = c.args in
    sym (length-take-le _ _ (written_fits a.fields.kind a.fields.period a.fields.origin a.readings.now a.radii.now a.room.now _ _ c.in-Ok.ensures (omega arith) (omega arith)
    (λ i. omega (arith, c.type_inv.readings i)) (λ i. omega (arith, c.type_inv.radii i))))

pub returns-in-Ok : goal.returns-in-Ok
returns-in-Ok c =
    let a = c.args in
    c.patterns_at.ensures
    ∙ ap (λ (part : List ℕ). patterns_placed part a.place) c.points_of.ensures
    ∙ written_points a.fields.kind a.fields.period a.fields.origin a.readings.now a.radii.now a.room.now _ _ c.in-Ok.ensures (omega arith) (omega arith)
    (λ i. omega (arith, c.type_inv.readings i)) (λ i. omega (arith, c.type_inv.radii i)) a.place
