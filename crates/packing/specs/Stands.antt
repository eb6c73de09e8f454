-- What an operand stands for in a format. Nothing to believe: the one invariant of operands that every layer above asks for and keeps.
use Rattle.std.specs.Prelude.{◌≡◌, Option, None, Some}
use Rattle.definitions.specs.Class.{finite}
use Rattle.definitions.specs.Format.{Format, Representable, Holds}
use Rattle.operands.specs.declared.Operand.{Operand}
use Rattle.operands.specs.declared.Unpacked.{Unpacked}
use Rattle.operands.specs.declared.Operand.TheVariants.{Finite}
use Rattle.operands.specs.Operand.{operand_of, class_in, value_operand}

-- an operand is written as `unpack` writes what it stands for, and the format holds that
pub record Stands (f : Format) (o : Operand) : Type 0 where
  pub is : o ≡ operand_of f.smallest (class_in f.smallest o)
  pub holds : Holds f (class_in f.smallest o)

-- the same of an operand that is a finite value
pub record StandsValue (f : Format) (o : Operand) : Type 0 where
  pub is : o ≡ operand_of f.smallest (finite (value_operand f.smallest o))
  pub held : Representable f (value_operand f.smallest o).count

-- and of a divisor
abbrev pub StandsDivisor : Format → Option Unpacked → Type 0
StandsDivisor f None = Unit {0}
StandsDivisor f (Some u) = StandsValue f (Finite u)
