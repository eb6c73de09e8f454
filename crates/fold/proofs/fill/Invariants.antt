-- `fill` meets its contract. After i places both lists are filled from the front up to i.
use Rattle.std.proofs.Common.{◌≡◌}
use Rattle.fold.proofs.Passed.{Passed}
use Rattle.fold.proofs.fill.Given as goal

abbrev pub invariant-loop-i : goal.invariant-loop-i
invariant-loop-i g l =
    Passed (g.P.Places.kind l.fn.places) (g.P.Places.divisor l.fn.places) l.x l.initial.results l.initial.quotients l.results l.quotients l.marked l.i
    × (g.P.Places.kind l.places ≡ g.P.Places.kind l.fn.places) × (g.P.Places.divisor l.places ≡ g.P.Places.divisor l.fn.places)
