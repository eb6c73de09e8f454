-- `extend` meets its contract: the first n powers are in the table.
use Rattle.prepared.specs.Prepared.{Powers}
use Rattle.prepared.proofs.powers.extend.Given as goal

abbrev pub invariant-loop-n : goal.invariant-loop-n
invariant-loop-n l =
    Powers l.m.significand l.n l.table
