-- `are_digits`: what the bytes read so far are, and those left decide the rest.
use Rattle.std.proofs.Common.{◌≡◌, ◌&&◌, drop}
use Rattle.definitions.specs.Line.{all_hex}
use Rattle.hexadecimal.proofs.are_digits.Given as goal

abbrev pub invariant-loop-c : goal.invariant-loop-c
invariant-loop-c l = l.are_digits && all_hex (drop l.c-index l.bytes) ≡ all_hex l.bytes
