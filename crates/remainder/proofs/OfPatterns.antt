-- The remainder of operands that are those of patterns is that of the patterns, in every format. Assumes nothing.
use Rattle.std.specs.Prelude.{Result, Ok}
use mathlib.Core.Path.{◌≡◌, refl, sym, ap, ◌∙◌}
use mathlib.Core.Bool.{Bool, false, ◌||◌}
use Prim.Native.Nat.{ℕ}
use lib.IntN.{pos}
use Rattle.definitions.specs.Format.{Format, class_of}
use Rattle.definitions.specs.Facts.{denormal, told_denormal}
use Rattle.definitions.specs.Remainder.{remainder_of, remainder}
use Rattle.definitions.specs.Answers.{remainder_meaning, joined}
use Rattle.definitions.specs.declared.Kind.{Kind}
use Rattle.definitions.specs.declared.Refused.{Refused}
use Rattle.definitions.specs.declared.Residue.{Residue}
use Rattle.definitions.specs.declared.Told.{Told}
use Rattle.definitions.proofs.Facts.{told_always}
use Rattle.operands.specs.declared.Operand.{Operand}
use Rattle.operands.specs.Operand.{operand_of, class_in, divisor_operand}
use Rattle.shapes.specs.Shape.{Sound}
use Rattle.pairs.specs.Divisions.{divisor_divisions, divisions}
use Rattle.quick.proofs.Normals.{Normal, normal_denormal}
use Rattle.packing.proofs.Standing.{class_pattern}

module _ (f : Format) (ok : Sound f) (x y : ℕ) (o p : Operand)
    (ox : o ≡ operand_of f.smallest (class_of f x)) (py : p ≡ operand_of f.smallest (class_of f y)) where
  pub patterns_remainder : (κ : Kind) (r : Result (Residue ℕ) Refused) → remainder_meaning r ≡ remainder_of f κ (class_in f.smallest o) (class_in f.smallest p)
      → remainder_meaning r ≡ remainder f κ x y
  unfolding remainder
  patterns_remainder κ r e = e ∙ (λ i. remainder_of f κ (class_pattern f ok x o ox i) (class_pattern f ok y p py i))

  pub patterns_divisions : (n : ℕ) → n ≡ divisor_divisions o (divisor_operand p) → n ≡ divisions f x y
  unfolding divisions
  patterns_divisions n e = e ∙ (λ i. divisor_divisions (ox i) (divisor_operand (py i)))

module _ (f : Format) (κ : Kind) (x y : ℕ) where
  -- what is told of denormal operands: the remainder never gives 6
  pub patterns_denormal : (b : Bool) → b ≡ denormal f x || denormal f y → b ≡ told_denormal f (remainder f κ x y).number x y
  patterns_denormal b e = e ∙ sym (told_always f κ x y (pos 0)).0

  -- two normal patterns: their answer as the code has it, and neither is denormal
  pub normals_told : Normal f x → Normal f y → (a : Residue ℕ) (t : Told (Residue ℕ)) → t.answer ≡ Ok a → t.denormal ≡ false
      → record { number = 0; value = joined a.value; quotient = a.quotient } ≡ remainder f κ x y
      → (remainder_meaning t.answer ≡ remainder f κ x y) × (t.denormal ≡ told_denormal f (remainder f κ x y).number x y)
  unfolding remainder_meaning
  normals_told nx ny a t answer denormal e = (ap remainder_meaning answer ∙ e, patterns_denormal t.denormal (rw (denormal, normal_denormal f x nx, normal_denormal f y ny) refl))
