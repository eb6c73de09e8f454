-- What the checks of the code come to, as numbers, and what they look at. Nothing to believe: these only name the code's own values.
use Rattle.std.specs.Prelude.{ℕ, Bool, true, false, Result, Ok, Err}
use Rattle.definitions.specs.declared.Refusal.{Refusal}
use Rattle.definitions.specs.Answers.{refusal_number}
use Rattle.operands.specs.declared.Operand.{Operand}
use Rattle.operands.specs.declared.Operand.TheVariants.{Unsupported, Nan, Infinite, Zero, Finite}

abbrev pub verdict_number : Result Unit Refusal → ℕ
verdict_number (Ok a) = 0
verdict_number (Err w) = refusal_number w

abbrev pub unsupported_operand : Operand → Bool
unsupported_operand Unsupported = true
unsupported_operand (Nan n s) = false
unsupported_operand (Infinite n) = false
unsupported_operand (Zero n) = false
unsupported_operand (Finite u) = false

abbrev pub nan_operand : Operand → Bool
nan_operand Unsupported = false
nan_operand (Nan n s) = true
nan_operand (Infinite n) = false
nan_operand (Zero n) = false
nan_operand (Finite u) = false

abbrev pub infinite_operand : Operand → Bool
infinite_operand Unsupported = false
infinite_operand (Nan n s) = false
infinite_operand (Infinite n) = true
infinite_operand (Zero n) = false
infinite_operand (Finite u) = false

abbrev pub zero_operand : Operand → Bool
zero_operand Unsupported = false
zero_operand (Nan n s) = false
zero_operand (Infinite n) = false
zero_operand (Zero n) = true
zero_operand (Finite u) = false
