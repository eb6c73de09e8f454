-- `answer_input`: the buffers keep their lengths, and no more of a line is kept than is asked.
use Rattle.std.proofs.Common.{◌≡◌, ◌≤◌, length}
use Rattle.remainder_lines.proofs.answer_input.Given as goal

abbrev pub invariant-loop : goal.invariant-loop
invariant-loop l = (length l.buffer ≡ 65536) × (length l.out ≡ 589836) × (l.kept ≤ 34)
