-- `bad_line` meets its contract.
use mathlib.Core.Path.{refl}
use Rattle.lines.specs.Output.{output_of}
use Rattle.lines.proofs.output.bad_line.Goals as goal

pub returns : goal.returns
unfolding output_of
returns c = refl
