-- A line of output as the code holds it. Definitions only.
use Rattle.std.specs.Prelude.{ℕ, ◌-◌, List, ◌++◌, length, replicate}
use Rattle.lines.specs.declared.output.Output.{Output}

-- the line's bytes, zeros up to the twentieth, and how many bytes the line has
unfoldable pub output_of : List ℕ → Output
output_of l = record { bytes = l ++ replicate (20 - length l) 0; len = length l }
