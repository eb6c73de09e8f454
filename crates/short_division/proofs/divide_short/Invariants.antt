-- `divide_short` meets its contract. The loop's invariant: the division of the places that are passed.
use Prim.Native.Nat.{◌+◌, ◌*◌, ◌%◌}
use Rattle.short_division.proofs.Turns.{Reached}
use Rattle.short_division.proofs.divide_short.Given as goal

abbrev pub invariant-loop-turn : goal.invariant-loop-turn
invariant-loop-turn l =
    Reached l.a l.b (l.places % 40 + l._turn * 40) l.quotient l.rest
