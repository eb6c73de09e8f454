-- `digits_line`: the digits put so far, before those that are left, and the spaces after all of them.
use Rattle.std.proofs.Common.{◌≡◌, ◌-◌, ◌++◌, length, take, drop}
use lib.ListN.{replicate}
use Rattle.definitions.specs.Line.{hex_digits}
use Rattle.lines.proofs.output.digits_line.Given as goal

abbrev pub invariant-loop-k : goal.invariant-loop-k
invariant-loop-k l =
    (length l.bytes ≡ 20) × (take l.k l.bytes ++ hex_digits (16 - l.k) l.value ≡ hex_digits 16 l.value) × (drop 16 l.bytes ≡ replicate 4 32)
