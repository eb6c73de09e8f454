-- How the code holds a scaled operand. Nothing to believe: this only names the code's own value.
use Rattle.std.specs.Prelude.{ℤ}
use Rattle.definitions.specs.Scale as definition
use Rattle.operands.specs.Operand.{operand_of}
use Rattle.operands.specs.declared.Operand.{Operand}
use Rattle.definitions.specs.declared.WithRounding.{WithRounding}

abbrev pub scaled_of : ℤ → definition.Scaled → WithRounding Operand
scaled_of s a = record { value = operand_of s a.class; says = a.says }
