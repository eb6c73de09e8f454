-- [3.7] a step and a run by an infinite divisor finish in one step, with x in its ordinary pattern. Assumes nothing.
use mathlib.Core.Path.{◌≡◌}
use mathlib.Core.Bool.{Bool, true}
use Prim.Native.Nat.{ℕ, suc}
use Rattle.definitions.specs.Class.{Value, finite, infinite}
use Rattle.definitions.specs.Format.{class_of, ordinary_of, x87}
use Rattle.definitions.specs.Numbers.{first}
use Rattle.definitions.specs.declared.Kind.{Kind}
use Rattle.definitions.specs.Division.{finish}
use Rattle.definitions.specs.Steps.{step, run}
use Rattle.definitions.specs.Reports.{Lent, fitting, sized, step_report, run_report}

module _ (l : Lent) (κ : Kind) (n x y : ℕ) (v : Value) (s : Bool) where
  pub step_infinite : class_of x87 x ≡ finite v → class_of x87 y ≡ infinite s → fitting l ≡ true → sized n ≡ true
      → step_report l κ n x y ≡ record { number = 0; value = ordinary_of x87 x; quotient = 0; steps = 1 }
  unfolding step_report first step finish
  step_infinite ex ey fits size = rw (ex, ey, fits, size)

  pub run_infinite : (b : ℕ) → class_of x87 x ≡ finite v → class_of x87 y ≡ infinite s → fitting l ≡ true → sized n ≡ true
      → run_report l κ n (suc b) x y ≡ record { number = 0; value = ordinary_of x87 x; quotient = 0; steps = 1 }
  unfolding run_report first run step finish
  run_infinite b ex ey fits size = rw (ex, ey, fits, size)
