-- `read_field`: the digits read so far stand for n, and those left, which are digits too, decide the rest.
use Rattle.std.proofs.Common.{◌≡◌, ◌^◌, ◌<◌, true, drop}
use Rattle.definitions.specs.Line.{all_hex, hex_value}
use Rattle.hexadecimal.proofs.read_field.Given as goal

abbrev pub invariant-loop-c : goal.invariant-loop-c
invariant-loop-c l =
    (l.n < 16 ^ l.c-index) × (all_hex (drop l.c-index l.digits) ≡ true) × (hex_value l.n (drop l.c-index l.digits) ≡ hex_value 0 l.digits)
