-- `fold_point` meets its contract.
use mathlib.Core.Path.{◌≡◌, sym, ap, ◌∙◌}
use mathlib.Core.Bool.{true}
use Prim.Native.Nat.{ℕ}
use lib.Ieee.{binary64, to_bits}
use Rattle.floats.proofs.Passed.{passed}
use Rattle.definitions.specs.Stem.{good, fold_reading}
use Rattle.gauges.specs.Held.{gauge_bits}
use Rattle.points.specs.Held.{point_bits}
use Rattle.laws.proofs.Folded.{point_folded, point_left}
use Rattle.points.proofs.Folded.{fold_passed}
use Rattle.points.proofs.fold_point.Goals as goal

pub returns-then-not-is_good : goal.returns-then-not-is_good
returns-then-not-is_good c =
    let a = c.args in
    sym (point_left (gauge_bits a.gauge) (point_bits a.point) (sym c.is_good.ensures ∙ c.if-not-is_good.true))

pub returns : goal.returns
returns c =
    let good_is : good (gauge_bits c.args.gauge) ≡ true =
    sym c.is_good.ensures ∙ c.if-not-is_good.false
    in
    let a = c.args in
    let x = a.point.reading in
    let is = c.fold_reading-reading.ensures ∙ ap (fold_reading (gauge_bits a.gauge)) c.pattern_of.ensures in
    let back = ap (to_bits binary64) c.float_of.ensures ∙ ap passed is ∙ fold_passed (gauge_bits a.gauge) (to_bits binary64 x) good_is in
    ap (λ (r : ℕ). record { number = 0; point = record { reading = r; radius = to_bits binary64 a.point.radius } }) back
    ∙ sym (point_folded (gauge_bits a.gauge) (point_bits a.point) good_is)
