-- `take_points` meets its contract: at the end both lists hold every point.
use native.Mathlib.Omega.{arith}
use Rattle.round_trips.proofs.Taken.{taken_all}
use Rattle.round_trips.proofs.take_points.Goals as goal

pub returns : goal.returns
returns c =
    let l = c.loop-i in
    taken_all c.args.part.now l.readings l.radii (omega (arith, c.requires.0)) (omega (arith, c.requires.1)) (λ k h. l.invariant k (omega (arith, h)))
