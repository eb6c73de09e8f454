-- `take_points` meets its contract, by that of `patterns_at`. After i turns both lists hold the points before i.
use Rattle.round_trips.proofs.Taken.{Taken}
use Rattle.round_trips.proofs.take_points.Given as goal

abbrev pub invariant-loop-i : goal.invariant-loop-i
invariant-loop-i l = Taken l.part l.readings l.radii l.i
