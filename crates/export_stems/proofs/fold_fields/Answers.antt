-- `fold_fields` meets its contract: the gauge is judged by its fields, and the fold goes through floats.
use mathlib.Core.Path.{◌≡◌, sym, ap, ◌∙◌}
use mathlib.Core.Bool.{true, not, ◌||◌}
use Prim.Native.Nat.{ℕ}
use lib.Dec.{eqb}
use lib.Ieee.{binary64, of_bits, to_bits}
use borrow.Author.Tests.{lt-ltb, le-ltb, eq-eqb, ne_eqb}
use Rattle.std.proofs.lemmas.Result.{err_from_is_err_and}
use Rattle.definitions.specs.Numbers.{first}
use Rattle.definitions.specs.Stem.{Point, FoldedPoint, gauge_of, fold_point}
use Rattle.floats.proofs.Passed.{passed}
use Rattle.gauges.specs.Held.{gauge_held, gauge_bits}
use Rattle.points.specs.Held.{point_bits}
use Rattle.export_stems.proofs.Folded.{turn_shifted, number_told, number_good, reading_told, fold_held}
use Rattle.export_stems.proofs.fold_fields.Goals.{else-fields-eq0-via-then-fields-eq0+else-fields-ne0, else-fields-eq0-via-else-fields-eq0}
use Rattle.export_stems.proofs.fold_fields.Goals as goal

pub returns-then-fields-gt1-clause-number : goal.returns-then-fields-gt1-clause-number
unfolding first
returns-then-fields-gt1-clause-number c = rw (lt-ltb _ _ c.if-fields-gt1.true)

pub returns-then-fields-ne0-clause-number : goal.returns-then-fields-ne0-clause-number
unfolding first
returns-then-fields-ne0-clause-number c =
    let a = c.args.fields in
    rw (le-ltb _ _ c.if-fields-gt1.false, turn_shifted a.kind a.period a.origin c.if-fields-eq0.true (ne_eqb _ _ c.if-fields-ne0.true))

pub returns-in_err-answer-clause-number : goal.returns-in_err-answer-clause-number
returns-in_err-answer-clause-number c =
    let a = c.args.fields in
    let unshifted : (not (eqb a.kind 0) || eqb a.origin 0) ≡ true =
    elim c.else-fields-eq0.branch [
      | else-fields-eq0-via-then-fields-eq0+else-fields-ne0 w ↦ rw (eq-eqb _ _ w.if-fields-eq0.true, eq-eqb _ _ w.if-fields-ne0.false)
      | else-fields-eq0-via-else-fields-eq0 w ↦ rw (ne_eqb _ _ w.if-fields-eq0.false)
    ]
    in
    let p = err_from_is_err_and c.from_residual.result c.from_residual.ensures.1 in
    rw (p.1, p.2)
    (ap (λ (f : FoldedPoint). f.number) c.in_err-answer.ensures ∙ rw c.into.ensures (number_told a.kind a.period a.origin _ c.if-fields-gt1.false unshifted))

pub returns-clause-number : goal.returns-clause-number
returns-clause-number c =
    let a = c.args.fields in
    let unshifted : (not (eqb a.kind 0) || eqb a.origin 0) ≡ true =
    elim c.else-fields-eq0.branch [
      | else-fields-eq0-via-then-fields-eq0+else-fields-ne0 w ↦ rw (eq-eqb _ _ w.if-fields-eq0.true, eq-eqb _ _ w.if-fields-ne0.false)
      | else-fields-eq0-via-else-fields-eq0 w ↦ rw (ne_eqb _ _ w.if-fields-eq0.false)
    ]
    in
    ap (λ (f : FoldedPoint). f.number) c.in_ok-answer.ensures ∙ rw c.into.ensures (number_told a.kind a.period a.origin _ c.if-fields-gt1.false unshifted)

-- what was folded, in the definition's words
abbrev point : ℕ → Point
point reading = record { reading = passed reading; radius = to_bits binary64 (of_bits binary64 0) }

pub returns-clause-reading : goal.returns-clause-reading
returns-clause-reading c =
    let g = gauge_of c.args.fields.kind c.args.fields.period c.args.fields.origin in
    let x = c.args.reading in
    let folded : ◌≡◌ {A = FoldedPoint} (record { number = 0; point = point_bits c.in_ok-answer.answer }) (fold_point (gauge_bits (gauge_held g)) (point x)) =
    rw (← c.into.ensures, ← c.float_of.ensures) c.in_ok-answer.ensures
    in
    let z = ap (λ (f : FoldedPoint). f.number) (sym folded) in
    c.pattern_of.ensures
    ∙ ap (λ (f : FoldedPoint). f.point.reading) folded
    ∙ reading_told (gauge_bits (gauge_held g)) (point x) z
    ∙ fold_held g x (number_good g (point x) z)
