-- `trim` meets its contract: the digits that it keeps are the smaller of the precision and of what lies above the smallest place.
use Rattle.std.specs.Prelude.{min}
use mathlib.Core.Path.{◌≡◌, ap, ◌∙◌}
use Prim.Native.Nat.{ℕ, suc, ◌-◌, ◌*◌, ◌/◌, ◌^◌, ◌≤◌}
use native.Mathlib.Omega.{arith}
use Rattle.operands.specs.Operand.{place_in}
use Rattle.packing.specs.Trimmed.{trimmed_of}
use Rattle.packing.proofs.Standing.{ready, smallest_back, exponent_back}
use Rattle.packing.proofs.Packing.{trim_is, place_above, place_below}
use Rattle.packing.proofs.pack.trim.Goals as goal

pub place_of-place-requires : goal.place_of-place-requires
place_of-place-requires g c =
    let f = g.F.Format.format in
    let ok = g.met.F.Format.sound in
    let u = c.args.value in
    rw (exponent_back f ok u c.requires, smallest_back f ok _ (c.SMALLEST.ensures ∙ g.met.F.Format.smallest_is))
    (place_above f ok u c.requires, place_below f ok u c.requires)

pub returns : goal.returns
returns g c =
    let f = g.F.Format.format in
    let ok = g.met.F.Format.sound in
    let u = c.args.value in
    let fit = ready f ok u c.requires in
    let t = c.place_of-place.result in
    let kept = c.min-kept.result in
    let place : t ≡ place_in f.smallest u.exponent =
    rw (exponent_back f ok u c.requires, smallest_back f ok _ (c.SMALLEST.ensures ∙ g.met.F.Format.smallest_is)) at c.place_of-place.ensures
    in
    let low : kept ≡ min t (f.precision - 1) = rw (← g.met.F.Format.precision_is, ← c.PRECISION.ensures) c.min-kept.ensures in
    let below : kept ≤ t = omega (arith, low) in
    let word : kept ≤ 63 = omega (arith, low, ok.narrow) in
    let rest : t - kept ≡ suc t - f.precision = omega (arith, low, ok.regular.digits) in
    trim_is u.significand t fit.top fit.word f.precision kept below word rest ∙ ap (λ (i : ℕ). trimmed_of f.precision (u.significand * 2 ^ i / 2 ^ 63)) place
