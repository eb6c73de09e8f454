-- What C hands over and gets back as numbers, and what lent memory holds after a call. Definitions only.
use Rattle.std.specs.Prelude.{ℕ, ◌/◌, ◌%◌, ◌^◌, Bool, cond, List, length}
use Rattle.definitions.specs.Numbers.{accepted}
use Rattle.definitions.specs.Reports.{Lent, block}
use Rattle.definitions.specs.declared.Rounding.{Rounding}
use Rattle.definitions.specs.declared.Rounding.TheVariants.{Exact, Up, Down}

-- [7.6, 9.2] an answer is written, and a refusal leaves what was there
abbrev pub after : {A : Type 0} → ℕ → A → A → A
after number answer lent = cond (accepted number) answer lent

-- [9.2] an x87 pattern is two numbers
abbrev pub significand_in : ℕ → ℕ
significand_in b = b % 2 ^ 64

abbrev pub word_in : ℕ → ℕ
word_in b = b / 2 ^ 64

-- [9.3] a step or a run lends a block as long as this one
abbrev pub lending : List ℕ → Lent
lending held = block (length held)

-- [6.4] what scaling says, as a number
abbrev pub says_number : Rounding → ℕ
says_number Exact = 0
says_number Up = 1
says_number Down = 2

-- a fact, as a number
abbrev pub flag_number : Bool → ℕ
flag_number b = cond b 1 0
