-- A whole number rounded by a number of binary places, ties to even. Definitions only.
use Rattle.std.specs.Prelude.{ℕ, ◌+◌, ◌/◌, ◌%◌, ◌^◌, Bool, true, false, cond, eqb}
use Rattle.definitions.specs.declared.Kind.TheVariants.{Nearest}
use Rattle.definitions.specs.Division.{rounds_up}
use Rattle.definitions.specs.declared.Rounding.{Rounding}
use Rattle.definitions.specs.declared.Rounding.TheVariants.{Exact, Up, Down}

pub record Rounded : Type 0 where
  pub quotient : ℕ
  pub says : Rounding

-- [6.4] what is said of a rounding
abbrev pub direction : Bool → Bool → Rounding
direction true up = Exact
direction false true = Up
direction false false = Down

-- [6.1] n / 2 ^ k to the nearest whole number, a half going to the even one
unfoldable pub round : ℕ → ℕ → Rounded
round n k =
    let d = 2 ^ k in
    let q = n / d in
    let r = n % d in
    let up = rounds_up Nearest q r d in
    record { quotient = cond up (q + 1) q; says = direction (eqb r 0) up }
