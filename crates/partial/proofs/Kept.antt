-- The steps that leave a value as it is: a zero's, and those by an infinite divisor. Assumes nothing.
use Rattle.std.specs.Prelude.{Option, None, Some}
use mathlib.Core.Path.{◌≡◌, refl, sym, ap}
use mathlib.Core.Bool.{Bool}
use Prim.Native.Nat.{ℕ}
use native.Mathlib.Omega.{arith}
use Rattle.digits.proofs.Tests.{clash}
use Rattle.definitions.specs.Class.{gap}
use Rattle.definitions.specs.Format.{x87}
use Rattle.definitions.specs.Division.{unbounded, finish}
use Rattle.definitions.specs.Steps.{step}
use Rattle.definitions.specs.declared.Kind.{Kind}
use Rattle.operands.specs.Operand.{operand_of, class_in, value_in, value_operand, divisor_in}
use Rattle.operands.specs.declared.Operand.{Operand}
use Rattle.operands.specs.declared.Operand.TheVariants.{Zero, Finite}
use Rattle.operands.specs.declared.Unpacked.{Unpacked}
use Rattle.operands.proofs.Cases.{other_cases}
use Rattle.packing.specs.Stands.{StandsValue, StandsDivisor}
use Rattle.shapes.proofs.Sounds.{sound80}
use Rattle.packing.proofs.Standing.{unpacks}
use Rattle.laws.proofs.Division.{finish_far}
use Rattle.partial.specs.Stepped.{stepped_of}
use Rattle.definitions.specs.declared.Progress.{Progress}
use Rattle.definitions.specs.declared.Progress.TheVariants.{Finished}
use Rattle.pairs.specs.declared.Left.{Left}

-- a step that takes nothing off
abbrev pub kept_of : Operand → Progress Left
kept_of o = Finished (record { value = o; quotient = 0 })

module _ (κ : Kind) (k : ℕ) where
  -- an infinite divisor takes nothing off
  pub unbounded_step : (o : Operand) → StandsValue x87 o → kept_of o ≡ stepped_of (step κ k unbounded (value_operand x87.smallest o))
  unfolding step finish
  unbounded_step o s = ap kept_of s.is

  -- a zero is left as it is by every divisor
  zero_step : (n : Bool) (d : Option Unpacked) → StandsDivisor x87 d → kept_of (Zero n) ≡ stepped_of (step κ k (divisor_in x87.smallest d) (record { negative = n; count = 0 }))
  unfolding step finish gap operand_of
  zero_step n None s = refl
  zero_step n (Some y) s =
      sym (ap stepped_of (finish_far κ (value_in x87.smallest y).count (record { negative = n; count = 0 }) (unpacks x87 sound80 y s).some (omega arith)))

  -- a value that the code has found not to be finite and nonzero is a zero
  pub step_other : (d : Option Unpacked) → StandsDivisor x87 d → (o : Operand) → ((u : Unpacked) → o ≡ Finite u → ⊥) → StandsValue x87 o
      → kept_of o ≡ stepped_of (step κ k (divisor_in x87.smallest d) (value_operand x87.smallest o))
  unfolding class_in operand_of
  step_other d s =
      other_cases (λ (o : Operand). StandsValue x87 o → kept_of o ≡ stepped_of (step κ k (divisor_in x87.smallest d) (value_operand x87.smallest o)))
      (λ v. let e = v.is in clash (cc)) (λ n t v. let e = v.is in clash (cc)) (λ n v. let e = v.is in clash (cc)) (λ n v. zero_step n d s)
