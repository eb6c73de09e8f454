-- What the code of rounding answers: the definition's record, as the code's. Definitions only.
use Rattle.std.specs.Prelude.{ℕ, ◌+◌, Bool, cond, eqb}
use Rattle.definitions.specs.Round.{round}
use Rattle.definitions.specs.declared.Rounding.TheVariants.{Exact, Up, Down}
use Rattle.definitions.specs.declared.WithRounding.{WithRounding}

abbrev pub round_of : ℕ → ℕ → WithRounding ℕ
round_of n places = record { value = (round n places).quotient; says = (round n places).says }

-- a quotient, exact where nothing is left over, else one more where it goes up
abbrev pub rounded_of : ℕ → ℕ → Bool → WithRounding ℕ
rounded_of q r up =
    cond (eqb r 0) (record { value = q; says = Exact })
    (cond up (record { value = q + 1; says = Up }) (record { value = q; says = Down }))
