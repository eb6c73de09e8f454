-- `power_of_two` meets its contract. The loop's invariant: the power of the exponent's digits that are passed.
use Rattle.std.proofs.Common.{◌≡◌, ◌+◌, ◌/◌, ◌%◌, ◌^◌, ◌≤◌}
use Rattle.division.specs.Divisions.{squarings_of}
use Rattle.division.proofs.turns.power_of_two.Given as goal

abbrev pub invariant-loop-digit : goal.invariant-loop-digit
invariant-loop-digit l =
    (l.digit + l.divisions ≡ squarings_of l.e) × (l.power ≤ l.b.divisor) × (l.power % l.b.divisor ≡ 2 ^ (l.e / 2 ^ l.digit) % l.b.divisor)
