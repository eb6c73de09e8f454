-- `answer_ended`: the first i bytes of the input are taken.
use mathlib.Core.Path.{◌≡◌}
use lib.ListN.{length}
use Rattle.stream.proofs.Ended.{SoFar}
use Rattle.stream.proofs.answer_ended.Given as goal

abbrev pub invariant-loop-i : goal.invariant-loop-i
invariant-loop-i l = SoFar l.input l.out l.begin l.at l.i × (length l.out ≡ length l.initial.out)
