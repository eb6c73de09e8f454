-- The NaN of two operands, as the code holds it. Nothing to believe: this only names the code's own value.
use Rattle.std.specs.Prelude.{ℕ, Bool, cond, ltb}
use Rattle.operands.specs.declared.Operand.{Operand}
use Rattle.operands.specs.declared.Operand.TheVariants.{Unsupported, Nan, Infinite, Zero, Finite}

abbrev pub against_operand : Bool → ℕ → Operand → Operand
against_operand m s Unsupported = Nan m s
against_operand m s (Nan n t) = cond (ltb s t) (Nan n t) (Nan m s)
against_operand m s (Infinite n) = Nan m s
against_operand m s (Zero n) = Nan m s
against_operand m s (Finite u) = Nan m s

abbrev pub chosen_operand : Operand → Operand → Operand
chosen_operand Unsupported y = y
chosen_operand (Nan m s) y = against_operand m s y
chosen_operand (Infinite n) y = y
chosen_operand (Zero n) y = y
chosen_operand (Finite u) y = y
